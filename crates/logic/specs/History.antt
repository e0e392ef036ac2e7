-- Events, histories, and what a history says of a run: read this first. Assumes nothing.
use Rattle.std.specs.Prelude.{ℕ, zero, suc, Bool, true, false, cond, List, [], ◌∷◌, Some, None, Option, ◌==◌}
use Rattle.std.specs.Option.{option_map, unwrap_or}

-- A run is a session; runs are numbered from 1 in the order of their starts. A start opens the next run
-- with its first state, one code for each atom; a report gives a run a new state; a close gives none.
pub data Event : Type 0 where
  start : List ℕ → Event
  report : ℕ → List ℕ → Event
  close : ℕ → Event

-- A history (a trace) is the list of accepted events, the newest first.
abbrev pub History : Type 0
History = List Event

-- the newest run, and 0 with none
abbrev pub high : History → ℕ
high [] = 0
high (start q ∷ h) = suc (high h)
high (report r q ∷ h) = high h
high (close r ∷ h) = high h

-- the present state of the run s: what its newest start or report gave it
abbrev pub present : History → ℕ → List ℕ
present [] s = []
present (start q ∷ h) s = cond (s == suc (high h)) q (present h s)
present (report r q ∷ h) s = cond (s == r) q (present h s)
present (close r ∷ h) s = present h s

-- whether the run s is open: started, and not closed since
abbrev pub opened : History → ℕ → Bool
opened [] s = false
opened (start q ∷ h) s = cond (s == suc (high h)) true (opened h s)
opened (report r q ∷ h) s = opened h s
opened (close r ∷ h) s = cond (s == r) false (opened h s)

-- the history before the event that gave the run s its present state, if s had an earlier state
abbrev pub earlier : History → ℕ → Option History
earlier [] s = None
earlier (start q ∷ h) s = cond (s == suc (high h)) None (earlier h s)
earlier (report r q ∷ h) s = cond (s == r) (Some h) (earlier h s)
earlier (close r ∷ h) s = earlier h s

-- v at the earlier state of the run s, and d if it had none
abbrev pub before : {A : Type 0} → A → (History → ℕ → A) → History → ℕ → A
before d v h s = unwrap_or (option_map (λ g. v g s) (earlier h s)) d

-- v at the run before s, and d at run 1
abbrev pub earlier_run : {A : Type 0} → A → (ℕ → A) → ℕ → A
earlier_run d v zero = d
earlier_run d v (suc zero) = d
earlier_run d v (suc (suc n)) = v (suc n)
