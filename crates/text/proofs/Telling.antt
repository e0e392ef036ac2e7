-- What is read is what the text means, and is right.
use Rattle.std.proofs.Common.{◌≡◌, ℕ, zero, suc, ◌<◌, ◌≤◌, true, ◌&&◌, List, [], ◌∷◌, length, take, Ok, Err, sym, refl, ap, ◌∙◌, subst, arith}
use Rattle.std.proofs.lemmas.Bool.{and_parts, cond-true, cond-false, lt-ltb, le-ltb}
use Rattle.lines.specs.declared.fault.LineFault.TheVariants.{ManyLines}
use Rattle.lines.specs.declared.line.Line.{Line}
use Rattle.lines.specs.declared.policy.Policy.{Policy}
use Rattle.lines.specs.Forms.{declared}
use Rattle.lines.specs.Policies.{lines_of}
use Rattle.lines.specs.Stands.{well_formed}
use Rattle.lines.specs.Tables.{lines, table}
use Rattle.lines.specs.Written.{kept_lines}
use Rattle.lines.proofs.Formed.{formed_lines}
use Rattle.lines.proofs.Writing.{length_lines, written_fits}
use Rattle.grammar.specs.declared.fault.GrammarFault.{GrammarFault}
use Rattle.grammar.specs.Machine.{accepted, outcome}
use Rattle.grammar.specs.Reading.{Reading as Comes_to}
use Rattle.grammar.proofs.Right.{reads_right}
use Rattle.names.specs.Names.{names_of}
use Rattle.names.proofs.Lookup.{length_names}
use Rattle.rules.specs.declared.parser.Parser.{Parser}
use Rattle.rules.specs.Parts.{text_of, count_in, lines_in}
use Rattle.text.specs.declared.fault.TextFault.TheVariants.{Grammar, Lines}
use Rattle.text.specs.Heads.{Accepts, Refuses}
use Rattle.text.specs.Texts.{policy, no_policy, with_lines, meant, Right}

formed_take : (n k m : ℕ) (ls : List Line) → well_formed n k ls ≡ true → well_formed n k (take m ls) ≡ true
formed_take n k zero ls w = refl
formed_take n k (suc m) [] w = refl
formed_take n k (suc m) (l ∷ ls) w = ap (λ v. v && well_formed n (suc k) (take m ls)) (and_parts _ _ w).0 ∙ formed_take n (suc k) m ls (and_parts _ _ w).1

-- reading comes to what the law says
comes_right : (t : List ℕ) {o : _} → outcome t ≡ o → Comes_to t o
comes_right t e = subst (Comes_to t) e (reads_right t)

-- p was read as a text that is t, up to q
module _ (t : List ℕ) {p q : Parser} (same : text_of p ≡ t) (a : Accepts p q) where
  ns : List (List ℕ)
  ns = names_of t q.names

  pub comes : outcome t ≡ accepted (names_of t q.names) a.form
  comes = ap outcome (sym same) ∙ a.comes ∙ ap (λ v. accepted (names_of v q.names) a.form) (a.text ∙ same)

  long : length (table a.form) ≡ count_in q
  long = omega (arith, length_lines 0 a.form, a.lines_are.count)

  pub atoms_here : declared q.names.count a.form ≡ true
  atoms_here = ap (λ v. declared v a.form) (sym (length_names (text_of q) q.names)) ∙ a.atoms

  pub formed_here : well_formed q.names.count 0 (lines_in q) ≡ true
  formed_here = ap (well_formed q.names.count 0) a.lines_are.lines_are.is ∙ formed_take q.names.count 0 128 (lines 0 a.form) (formed_lines q.names.count 0 a.form atoms_here)

  pub some_lines : 1 ≤ count_in q
  some_lines = omega (arith, a.lines_are.count)

  module _ (few : count_in q ≤ 128) where
    kept : lines_in q ≡ table a.form
    kept = written_fits a.form a.lines_are refl refl (omega (arith, a.lines_are.count))

    meant_here : meant t ≡ policy (names_of t q.names) (table a.form)
    meant_here = let short : length (table a.form) ≤ 128 = omega (arith, long) in ap (with_lines (length t)) comes ∙ cond-false _ _ _ (le-ltb _ _ short)

    pub told_policy : (l : Policy) → l.table ≡ q.table → policy (names_of t q.names) (lines_of l) ≡ meant t
    told_policy l e = ap (policy (names_of t q.names)) (ap kept_lines e ∙ kept) ∙ sym meant_here

    pub right_policy : (l : Policy) → l.table ≡ q.table → l.atoms ≡ q.names.count → Right t (Ok (record { names = q.names; policy = l }))
    right_policy l e n = (a.form, comes_right t comes, ap kept_lines e ∙ kept, n ∙ sym (length_names t q.names), omega (arith, long))

  module _ (many : 128 < count_in q) where
    pub told_many : no_policy (Lines (ManyLines (length t))) ≡ meant t
    told_many = let over : 128 < length (table a.form) = omega (arith, long) in sym (ap (with_lines (length t)) comes ∙ cond-true _ _ _ (lt-ltb _ _ over))

    pub right_many : Right t (Err (Lines (ManyLines (length t))))
    right_many = (names_of t q.names, a.form, comes_right t comes, omega (arith, long), refl)

module _ (t : List ℕ) {p : Parser} {e : GrammarFault} (same : text_of p ≡ t) (r : Refuses p e) where
  pub told_refused : no_policy (Grammar e) ≡ meant t
  told_refused = sym (ap (with_lines (length t)) (ap outcome (sym same) ∙ r.comes))

  pub right_refused : Right t (Err (Grammar e))
  right_refused = comes_right t (ap outcome (sym same) ∙ r.comes)
