-- Worked cases: what the definitions give, computed. Assumes nothing.
use Rattle.std.specs.Prelude.{◌≡◌, List, [], ◌∷◌}
use Rattle.scales.specs.Scales.{plain, with_unknown}
use Rattle.lines.specs.declared.line.Prefix.TheVariants as single
use Rattle.lines.specs.declared.line.Infix.TheVariants as pair
use Rattle.lines.specs.declared.line.Line.{Line}
use Rattle.lines.specs.Forms.{Form, atom, yes, prefixed, joined}
use Rattle.lines.specs.Tables.{table}
use Rattle.logic.specs.History.{History, start, report, close}
use Rattle.logic.specs.Rows.{verdict, reach}

-- HG (door -> ~ OL warm), with the atoms door and warm
abbrev pub policy_a : List Line
policy_a = table (prefixed single.HG (joined pair.Implies (atom 0) (prefixed single.Not (prefixed single.OL (atom 1)))))

-- YL YG p
abbrev pub policy_b : List Line
policy_b = table (prefixed single.YL (prefixed single.YG (atom 0)))

abbrev pub two_starts : History
two_starts = start (1 ∷ 0 ∷ []) ∷ start (0 ∷ 0 ∷ []) ∷ []

abbrev pub warmed : History
warmed = report 1 (0 ∷ 1 ∷ []) ∷ two_starts

abbrev pub door_opened : History
door_opened = report 1 (1 ∷ 0 ∷ []) ∷ warmed

abbrev pub two_runs : History
two_runs = start (0 ∷ []) ∷ start (0 ∷ []) ∷ []

abbrev pub first_reported : History
first_reported = report 1 (1 ∷ []) ∷ two_runs

abbrev pub second_reported : History
second_reported = report 2 (0 ∷ []) ∷ first_reported

abbrev pub WorkedCases : Type 0
WorkedCases =
    (verdict plain policy_a two_starts ≡ 1)
    × (reach plain policy_a 1 (0 ∷ 1 ∷ []) two_starts ≡ 1)
    × (verdict plain policy_a warmed ≡ 1)
    × (reach plain policy_a 1 (1 ∷ 0 ∷ []) warmed ≡ 2)
    × (verdict plain policy_a door_opened ≡ 0)
    × (verdict plain policy_a (report 1 (0 ∷ 0 ∷ []) ∷ door_opened) ≡ 1)
    × (reach plain policy_b 1 (1 ∷ []) two_runs ≡ 2)
    × (verdict plain policy_b first_reported ≡ 0)
    × (reach plain policy_b 2 (0 ∷ []) first_reported ≡ 1)
    × (verdict plain policy_b second_reported ≡ 1)
    × (reach plain policy_b 1 (0 ∷ []) second_reported ≡ 2)
    × (verdict plain policy_b (report 1 (0 ∷ []) ∷ second_reported) ≡ 1)
    × (verdict with_unknown policy_a (start (2 ∷ 0 ∷ []) ∷ []) ≡ 1)
    × (verdict with_unknown policy_a (start (1 ∷ 2 ∷ []) ∷ []) ≡ 2)
    × (verdict with_unknown policy_a (start (1 ∷ 1 ∷ []) ∷ []) ≡ 0)

-- Readings that go wrong, each at a short history of one atom p: what the definitions give there.
abbrev pub p : Form
p = atom 0

abbrev pub Pitfalls : Type 0
Pitfalls =
    -- a global since reads its own truth in the run before, not its left part's
    (verdict plain (table (joined pair.SG yes p)) (start (0 ∷ []) ∷ start (0 ∷ []) ∷ []) ≡ 0)
    -- a closed run keeps its earlier truths
    × (verdict plain (table (prefixed single.YL p)) (report 1 (0 ∷ []) ∷ close 2 ∷ report 2 (0 ∷ []) ∷ start (1 ∷ []) ∷ start (0 ∷ []) ∷ []) ≡ 1)
    -- earlier truths are not the present ones
    × (verdict plain (table (prefixed single.YL p)) (report 1 (1 ∷ []) ∷ start (0 ∷ []) ∷ []) ≡ 0)
    -- later runs are judged by the new truths of the run before
    × (verdict plain (table (prefixed single.YG p)) (report 1 (1 ∷ []) ∷ start (0 ∷ []) ∷ start (0 ∷ []) ∷ []) ≡ 1)
    -- a run's global truths are not fixed at its own report
    × (verdict plain (table (prefixed single.YL (prefixed single.YG p))) (report 2 (0 ∷ []) ∷ report 1 (1 ∷ []) ∷ start (0 ∷ []) ∷ start (0 ∷ []) ∷ []) ≡ 1)
    -- a start is judged by its own state
    × (verdict plain (table p) (start (1 ∷ []) ∷ []) ≡ 1)
    -- a global once goes back over all runs
    × (verdict plain (table (prefixed single.OG p)) (start (0 ∷ []) ∷ start (0 ∷ []) ∷ start (1 ∷ []) ∷ []) ≡ 1)
