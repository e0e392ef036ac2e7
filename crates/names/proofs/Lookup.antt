-- The search for a name, and one name more.
use Rattle.std.proofs.Common.{◌≡◌, ℕ, ◌+◌, ◌<◌, ◌≤◌, Bool, true, false, cond, not, ltb, List, [], ◌∷◌, ◌++◌, map, length, take, set, Some, None, sym, refl, ap, ◌∙◌, arith}
use Rattle.std.specs.List.{position, position_or_len}
use Rattle.std.specs.Option.{is_some}
use Rattle.std.specs.Str.{bytes_eq}
use Rattle.std.proofs.lemmas.List.Recursion.{is_position_or_len}
use Rattle.std.proofs.lemmas.List.{length-map, length-take-le, take_more_set, map-append}
use Rattle.std.proofs.lemmas.Bool.{lt-ltb, le-ltb, cond-true, cond-false}
use Rattle.grammar.specs.declared.fault.GrammarFault.TheVariants.{ManyAtoms}
use Rattle.grammar.specs.Grammar.{number}
use Rattle.grammar.specs.Machine.{is_declared, name_limit}
use Rattle.names.specs.declared.span.Span.{Span}
use Rattle.names.specs.declared.table.Names.{Names}
use Rattle.names.specs.Names.{span_bytes, names_of, lookup}

pub length_names : (text : List ℕ) (n : Names) → length (names_of text n) ≡ n.count
length_names text n = length-map (take n.count n.spans) (span_bytes text) ∙ length-take-le n.count n.spans (omega (arith, n.room, n.few))

cond_not : (b : Bool) (m n : ℕ) → cond (not b) m n ≡ cond b n m
cond_not true m n = refl
cond_not false m n = refl

-- a name's number is the place of the first part of the text that reads so
first_place : (text w : List ℕ) (xs : List Span) → number (map (span_bytes text) xs) w ≡ position_or_len (λ s. bytes_eq (span_bytes text s) w) xs
first_place text w = is_position_or_len (λ xs. number (map (span_bytes text) xs) w) (λ s. bytes_eq (span_bytes text s) w) refl (λ x xs. cond_not (bytes_eq (span_bytes text x) w) (1 + number (map (span_bytes text) xs) w) 0)

pub lookup_is : (text w : List ℕ) (n : Names) → position (λ s. bytes_eq (span_bytes text s) w) (take n.count n.spans) ≡ lookup (names_of text n) w
lookup_is text w n = rw (first_place text w (take n.count n.spans), length-map (take n.count n.spans) (span_bytes text)) refl

-- one name more
is_some_lookup : (ns : List (List ℕ)) (w : List ℕ) → is_some (lookup ns w) ≡ is_declared ns w
is_some_lookup ns w = go (is_declared ns w)
  where
    go : (b : Bool) → is_some (cond b (Some (number ns w)) None) ≡ b
    go true = refl
    go false = refl

limit_fresh : (ns : List (List ℕ)) (w : List ℕ) (f : ℕ) → is_some (lookup ns w) ≡ false → name_limit ns w f ≡ cond (ltb (length ns) 32) None (Some (ManyAtoms f))
limit_fresh ns w f e = cond-false _ _ _ (sym (is_some_lookup ns w) ∙ e)

pub limit_many : (text : List ℕ) (n : Names) (w : List ℕ) (f : ℕ) → is_some (lookup (names_of text n) w) ≡ false → 32 ≤ n.count → name_limit (names_of text n) w f ≡ Some (ManyAtoms f)
limit_many text n w f e h = let full : 32 ≤ length (names_of text n) = omega (arith, length_names text n) in limit_fresh (names_of text n) w f e ∙ cond-false _ _ _ (le-ltb _ _ full)

pub limit_none : (text : List ℕ) (n : Names) (w : List ℕ) (f : ℕ) → is_some (lookup (names_of text n) w) ≡ false → n.count < 32 → name_limit (names_of text n) w f ≡ None
limit_none text n w f e h = let room : length (names_of text n) < 32 = omega (arith, length_names text n) in limit_fresh (names_of text n) w f e ∙ cond-true _ _ _ (lt-ltb _ _ room)

pub one_more : (text : List ℕ) (n : Names) (s : Span) → n.count < 32 → map (span_bytes text) (take (n.count + 1) (set n.spans n.count s)) ≡ names_of text n ++ (span_bytes text s ∷ [])
one_more text n s h = ap (map (span_bytes text)) (take_more_set n.spans n.count s (omega (arith, n.room))) ∙ map-append (span_bytes text) (take n.count n.spans) (s ∷ [])
