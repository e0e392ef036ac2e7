-- Stretches of runs with the same record, and the records that they stand for. Assumes nothing.
use Rattle.std.specs.Prelude.{◌≡◌, ℕ, ◌+◌, ◌-◌, ◌^◌, ◌<◌, Bool, cond, ◌&&◌, List, [], ◌∷◌, replicate, nat_lt}
use Rattle.std.specs.List.{flat_map}
use Rattle.std.specs.Str.{bytes_eq}

-- `count` consecutive runs from `first` on, each with the record `kept` (a run of equal values)
pub record Stretch : Type 0 where
  pub first : ℕ
  pub count : ℕ
  pub kept : List ℕ

abbrev pub stretch : ℕ → ℕ → List ℕ → Stretch
stretch first count kept = record { first = first; count = count; kept = kept }

-- the records of the runs, one a run
abbrev pub records_of : List Stretch → List (List ℕ)
records_of ss = flat_map (λ s. replicate s.count s.kept) ss

-- one run more, below those of the stretches
abbrev pub below : ℕ → List ℕ → List Stretch → List Stretch
below run r [] = stretch run 1 r ∷ []
below run r (s ∷ ss) = cond (bytes_eq r s.kept) (stretch run (s.count + 1) r ∷ ss) (stretch run 1 r ∷ s ∷ ss)

-- the stretches of records of the runs from `low` on
abbrev pub stretches : ℕ → List (List ℕ) → List Stretch
stretches low [] = []
stretches low (r ∷ rs) = below low r (stretches (low + 1) rs)

-- whether a stretch begins below a run and ends at it or above
abbrev pub inside : Stretch → ℕ → Bool
inside s run = nat_lt s.first run && nat_lt (run - s.first) s.count

-- a stretch cut before a run, if that is inside
abbrev pub pieces : Stretch → ℕ → List Stretch
pieces s run =
    cond (inside s run)
    (stretch s.first (run - s.first) s.kept ∷ stretch run (s.count - (run - s.first)) s.kept ∷ [])
    (s ∷ [])

-- a stretch before others, joined with the first of them if they have the same record
abbrev pub fused : Stretch → List Stretch → List Stretch
fused s [] = s ∷ []
fused s (t ∷ ss) = cond (bytes_eq s.kept t.kept) (stretch s.first (s.count + t.count) s.kept ∷ ss) (s ∷ t ∷ ss)

-- the runs follow one another from n on, without a gap, and each stretch has some
abbrev pub Follow : ℕ → List Stretch → Type 0
Follow n [] = Unit {0}
Follow n (s ∷ ss) = (s.first ≡ n) × (0 < s.count) × Follow (n + s.count) ss

-- the record is not that of the first of the stretches
abbrev pub NotFirst : List ℕ → List Stretch → Type 0
NotFirst r [] = Unit {0}
NotFirst r (s ∷ ss) = r ≡ s.kept → ⊥

-- neighbours hold different records
abbrev pub Differ : List Stretch → Type 0
Differ [] = Unit {0}
Differ (s ∷ ss) = NotFirst s.kept ss × Differ ss

-- the stretches of a list of records follow one another, differ from their neighbours and stand for those records
abbrev pub Stand : Type 0
Stand = (low : ℕ) (rs : List (List ℕ)) → Follow low (stretches low rs) × Differ (stretches low rs) × (records_of (stretches low rs) ≡ rs)

-- and there is no other such list
abbrev pub Alone : Type 0
Alone = (low : ℕ) (ss : List Stretch) → Follow low ss → Differ ss → stretches low (records_of ss) ≡ ss

-- a stretch and the one behind it have so few runs that their sum is a number of four bytes
abbrev pub Few : Stretch → List Stretch → Type 0
Few s [] = Unit {0}
Few s (t ∷ ss) = s.count + t.count < 2 ^ 32
