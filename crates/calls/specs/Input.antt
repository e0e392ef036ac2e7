-- How bytes are cut: an input into its policy text and the rest, bytes at a byte. Assumes nothing.
use Rattle.std.specs.Prelude.{◌≡◌, ℕ, ◌<◌, ◌≤◌, ◌⊎◌, List, [], ◌∷◌, ◌++◌, length, ◌≢◌, slice_index}

-- the byte b does not stand in xs
abbrev pub Lacks : ℕ → List ℕ → Type 0
Lacks b xs = (k : ℕ) → k < length xs → slice_index xs k ≢ b

-- before and behind are what stands before and behind the first b of xs
abbrev pub CutAt : ℕ → List ℕ → List ℕ → List ℕ → Type 0
CutAt b xs before behind = (xs ≡ before ++ (b ∷ behind)) × Lacks b before

-- the text ends with the first full stop, byte 46, and the rest comes behind it
pub record Cut (input text rest : List ℕ) : Type 0 where
  pub short : length input ≤ 65536
  pub whole : input ≡ text ++ rest
  pub words : List ℕ
  pub stop : text ≡ words ++ (46 ∷ [])
  pub first : Lacks 46 words

-- there is no such text
abbrev pub Uncut : List ℕ → Type 0
Uncut input = (65536 < length input) ⊎ Lacks 46 input
