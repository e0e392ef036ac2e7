-- The names of a policy's atoms, by the text that they stand in. Assumes nothing.
use Rattle.std.specs.Prelude.{ℕ, ◌-◌, cond, ◌&&◌, List, [], ◌∷◌, ◌++◌, map, length, take, drop, Some, None, Ok, Err, Option, Result, nat_le}
use Rattle.grammar.specs.declared.fault.GrammarFault.{GrammarFault}
use Rattle.grammar.specs.Grammar.{number}
use Rattle.grammar.specs.Machine.{is_declared}
use Rattle.names.specs.declared.span.Span.{Span}
use Rattle.names.specs.declared.table.Names.{Names}

-- the bytes of a part of the text; none, where it is no part
abbrev pub span_bytes : List ℕ → Span → List ℕ
span_bytes text s = cond (nat_le s.from s.to && nat_le s.to (length text)) (take (s.to - s.from) (drop s.from text)) []

-- the names, in the order of their declaration
abbrev pub names_of : List ℕ → Names → List (List ℕ)
names_of text n = map (span_bytes text) (take n.count n.spans)

-- the number of the atom w, if it is declared
abbrev pub lookup : List (List ℕ) → List ℕ → Option ℕ
lookup ns w = cond (is_declared ns w) (Some (number ns w)) None

-- what declaring the name w, whose first byte is at f, gives
abbrev pub declared_answer : Option GrammarFault → Result (Unit {0}) GrammarFault
declared_answer None = Ok tt
declared_answer (Some e) = Err e

abbrev pub declared_names : List (List ℕ) → List ℕ → Option GrammarFault → List (List ℕ)
declared_names ns w None = ns ++ (w ∷ [])
declared_names ns w (Some e) = ns
