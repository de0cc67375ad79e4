-- The brief of a job.
use Rattle.std.specs.Prelude.{List, [], Option, None, Some}
use Rattle.fo_core.specs.declared.signature.Sig.{Sig}
use Rattle.up_diagram.specs.declared.cube.Cube.{Cube}
use Rattle.up_machine.specs.declared.brief.Brief.{Brief}
use Rattle.up_machine.specs.Machine.{Given, Work, Look, Push, Trace}
use Rattle.up_machine.specs.Due.{job_of}
use Rattle.up_machine.specs.Finding.{state_cubes}

-- the cubes of a frame; none where it is the initial states
abbrev pub cubes_in : Option (List Cube) → List Cube
cubes_in None = []
cubes_in (Some cubes) = cubes

-- what a job needs, by what its worker was given
abbrev pub brief_of : Sig → Given → Brief
brief_of sig (Work k level below world) = record {
  job = job_of (Work k level below world);
  level = level;
  frame = cubes_in below;
  avoid = [];
  world = Some world;
  cube = None;
}
brief_of sig (Look level cubes avoid done) = record {
  job = job_of (Look level cubes avoid done);
  level = level;
  frame = cubes;
  avoid = state_cubes sig avoid;
  world = None;
  cube = None;
}
brief_of sig (Push k level cubes cube) = record {
  job = job_of (Push k level cubes cube);
  level = level;
  frame = cubes;
  avoid = [];
  world = None;
  cube = Some cube;
}
brief_of sig (Trace k steps) = record {
  job = job_of (Trace k steps);
  level = steps;
  frame = [];
  avoid = [];
  world = None;
  cube = None;
}
