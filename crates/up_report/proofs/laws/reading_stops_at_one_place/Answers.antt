use Rattle.up_report.proofs.ReadReports.{one_place}
use Rattle.up_report.proofs.laws.reading_stops_at_one_place.Goals as goal

pub returns : goal.returns
returns c = one_place
