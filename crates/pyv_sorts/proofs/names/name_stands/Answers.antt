use Rattle.std.proofs.Common.{◌≡◌, sym}
use Rattle.pyv_sorts.proofs.Views.{count_views}
use Rattle.pyv_sorts.proofs.names.name_stands.Goals as goal

pub returns : goal.returns
returns c = rw (count_views c.args.known.now.bytes c.args.args.now, sym c.meaning-meaning.ensures.is) c.meaning_stands.ensures
