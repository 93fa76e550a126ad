use Rattle.cds_desk.proofs.RouteLaws.{route_found}
use Rattle.cds_desk.proofs.laws.each_route_is_found_by_its_path.Goals as goal

pub returns : goal.returns
returns c = route_found
