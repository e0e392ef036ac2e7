-- The bytes that a refusal is printed as. Assumes nothing.
use Rattle.std.specs.Prelude.{ℕ, List, ◌++◌, codes, decimal}
use Rattle.refusals.specs.declared.refusal.Layer.{Layer}
use Rattle.refusals.specs.declared.refusal.Layer.TheVariants.{Signs, Grammar, Lines, Book, Store, Program}
use Rattle.refusals.specs.declared.refusal.Refusal.{Refusal}

-- layers are numbered from the text up to the program
abbrev pub layer_number : Layer → ℕ
layer_number Signs = 1
layer_number Grammar = 2
layer_number Lines = 3
layer_number Book = 4
layer_number Store = 5
layer_number Program = 6

abbrev pub written : Refusal → List ℕ
written r =
    codes "refused " ++ (decimal r.number ++ (codes " layer " ++ (decimal (layer_number r.layer) ++ (codes " place " ++ decimal r.place))))
