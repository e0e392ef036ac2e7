-- The worked cases: texts, lists of calls and their answers. Assumes nothing.
use Rattle.std.specs.Prelude.{List, [], ◌∷◌, ◌≡◌, ℕ, codes, length, Ok, Result}
use Rattle.refusals.specs.declared.refusal.Refusal.{Refusal}
use Rattle.refusals.specs.declared.refusal.Layer.TheVariants as layer
use Rattle.scales.specs.Algebra.{Algebra}
use Rattle.scales.specs.Scales.{plain, with_unknown}
use Rattle.text.specs.Texts.{Text, policy, no_policy, meant, refusal_of}
use Rattle.meaning.specs.declared.answer.Answer.{Answer}
use Rattle.meaning.specs.declared.answer.Answer.TheVariants.{Started, Changed, Would, Verdict}
use Rattle.meaning.specs.declared.fault.BookFault.{BookFault}
use Rattle.meaning.specs.Calls.{Asked, ask_start, ask_report, ask_preview, ask_verdict, answers}

-- what a list of calls to a book of a text is answered, or why the text is no policy
pub data Heard : Type 0 where
  heard : List (Result Answer BookFault) → Heard
  refused : Refusal → Heard

-- a book of limit 64 on a scale
abbrev pub on_policy : Algebra → List Asked → Text → Heard
on_policy S cs (policy names lines) = heard (answers S lines (length names) 64 [] cs)
on_policy S cs (no_policy e) = refused (refusal_of e)

abbrev pub from_text : Algebra → List ℕ → List Asked → Heard
from_text S text cs = on_policy S cs (meant text)

abbrev pub text_a : List ℕ
text_a = codes "atoms door, warm; rule HG (door -> ~ OL warm)."

abbrev pub text_b : List ℕ
text_b = codes "atoms p; rule YL YG p."

-- a start and then the verdict
abbrev pub one_start : List ℕ → List Asked
one_start q = ask_start q ∷ ask_verdict ∷ []

abbrev pub WorkedCases : Type 0
WorkedCases =
    -- A: two starts, a late report of the first run that moves no line of the second, one that does, and a preview
    (from_text plain text_a (ask_start (0 ∷ 0 ∷ []) ∷ ask_start (1 ∷ 0 ∷ []) ∷ ask_verdict ∷ ask_report 1 (0 ∷ 1 ∷ []) ∷ ask_report 1 (1 ∷ 0 ∷ []) ∷ ask_preview 1 (0 ∷ 0 ∷ []) ∷ [])
    ≡ heard (Ok (Started 1) ∷ Ok (Started 2) ∷ Ok (Verdict 1) ∷ Ok (Changed 1 1) ∷ Ok (Changed 2 0) ∷ Ok (Would 1) ∷ []))
    -- B: the earlier truths of a run have what other runs' reports had moved
    × (from_text plain text_b (ask_start (0 ∷ []) ∷ ask_start (0 ∷ []) ∷ ask_report 1 (1 ∷ []) ∷ ask_report 2 (0 ∷ []) ∷ ask_report 1 (0 ∷ []) ∷ [])
    ≡ heard (Ok (Started 1) ∷ Ok (Started 2) ∷ Ok (Changed 2 0) ∷ Ok (Changed 1 1) ∷ Ok (Changed 2 1) ∷ []))
    -- A on the open scale, after one start
    × (from_text with_unknown text_a (one_start (2 ∷ 0 ∷ [])) ≡ heard (Ok (Started 1) ∷ Ok (Verdict 1) ∷ []))
    × (from_text with_unknown text_a (one_start (1 ∷ 2 ∷ [])) ≡ heard (Ok (Started 1) ∷ Ok (Verdict 2) ∷ []))
    × (from_text with_unknown text_a (one_start (1 ∷ 1 ∷ [])) ≡ heard (Ok (Started 1) ∷ Ok (Verdict 0) ∷ []))
    -- texts that are refused
    × (from_text plain (codes "atoms a; rule b.") [] ≡ refused (record { number = 6; layer = layer.Grammar; place = 14 }))
    × (from_text plain (codes "atoms a; rule a -b.") [] ≡ refused (record { number = 2; layer = layer.Signs; place = 16 }))
