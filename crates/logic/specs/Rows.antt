-- The truths of a table: rows, the verdict, the reach of a report, and how a row is judged line by line.
-- Assumes nothing.
use Rattle.std.specs.Prelude.{ℕ, zero, suc, Bool, false, cond, not, ◌&&◌, ◌||◌, List, [], ◌∷◌, ◌++◌, map, length, replicate, ◌==◌, nat_lt, slice_index_or}
use Rattle.scales.specs.Algebra.{Algebra, and}
use Rattle.lines.specs.declared.line.Line.{Line}
use Rattle.lines.specs.declared.line.Line.TheVariants.{Atom, No, Yes, Not, Or, YL, SL, YG, SG}
use Rattle.lines.specs.Forms.{Form}
use Rattle.lines.specs.Stands.{forms, rule}
use Rattle.logic.specs.History.{Event, History, report, high}
use Rattle.logic.specs.Truth.{truth}

-- how many of the runs 1 to n pass the test
abbrev pub tally : (ℕ → Bool) → ℕ → ℕ
tally t zero = 0
tally t (suc n) = cond (t (suc n)) (suc (tally t n)) (tally t n)

-- whether some form of the list passes the test
abbrev pub some_form : (Form → Bool) → List Form → Bool
some_form t [] = false
some_form t (f ∷ fs) = t f || some_form t fs

module _ (S : Algebra) where
  -- the row of the run s: the truth of each line of the table, which is that of the form it stands for
  abbrev pub row : List Line → History → ℕ → List ℕ
  row ls h s = map (λ f. truth S f h s) (forms ls)

  -- the row of no for every line, in the place of a row that there is none of
  abbrev pub nos : List Line → List ℕ
  nos ls = replicate (length ls) S.no

  -- the verdict: the rule's truth at the newest run
  abbrev pub verdict : List Line → History → ℕ
  verdict ls h = truth S (rule ls) h (high h)

  -- whether the event e moves the run s: some line's truth at s differs before and after e
  abbrev pub moves : List Line → Event → History → ℕ → Bool
  moves ls e h s = some_form (λ f. not (truth S f h s == truth S f (e ∷ h) s)) (forms ls)

  -- the reach of a report of the run r with q after h: one, and the number of later runs that it moves
  abbrev pub reach : List Line → ℕ → List ℕ → History → ℕ
  reach ls r q h = suc (tally (λ s. nat_lt r s && moves ls (report r q) h s) (high h))

  -- the truth of a line from the run's state, its earlier row, the row of the run before, and the truths of
  -- the lines above it in its own row
  abbrev pub judged : List ℕ → List ℕ → List ℕ → List ℕ → Line → ℕ
  judged state past previous above (Atom i) = slice_index_or state i S.no
  judged state past previous above No = S.no
  judged state past previous above Yes = S.yes
  judged state past previous above (Not i) = S.not (slice_index_or above i S.no)
  judged state past previous above (Or i j) = S.or (slice_index_or above i S.no) (slice_index_or above j S.no)
  judged state past previous above (YL i) = slice_index_or past i S.no
  judged state past previous above (SL i j) =
      S.or (slice_index_or above j S.no) (and S (slice_index_or above i S.no) (slice_index_or past (length above) S.no))
  judged state past previous above (YG i) = slice_index_or previous i S.no
  judged state past previous above (SG i j) =
      S.or (slice_index_or above j S.no) (and S (slice_index_or above i S.no) (slice_index_or previous (length above) S.no))

  -- the lines ls judged one by one below lines with the truths `above`, with these
  abbrev pub judged_below : List ℕ → List ℕ → List ℕ → List ℕ → List Line → List ℕ
  judged_below state past previous above [] = above
  judged_below state past previous above (l ∷ ls) = judged_below state past previous (above ++ (judged state past previous above l ∷ [])) ls

  -- a whole row, line by line
  abbrev pub step : List Line → List ℕ → List ℕ → List ℕ → List ℕ
  step ls state past previous = judged_below state past previous [] ls
