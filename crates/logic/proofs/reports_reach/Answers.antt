use Rattle.logic.proofs.Events.{below_stays, no_gap}
use Rattle.logic.proofs.Reaches.{count_stops, runs_follow}
use Rattle.logic.proofs.reports_reach.Goals as goal

pub returns : goal.returns
returns c = record { below = below_stays; above = no_gap; stops = count_stops; follow = runs_follow }
