-- The names of a policy, one after the other.
use Rattle.std.proofs.Common.{◌≡◌, ℕ, ◌-◌, ◌<◌, ◌≤◌, true, false, List, [], ◌∷◌, ◌++◌, length, Some, None, Ok, Err, Option, sym, refl, ap, ◌∙◌, subst, arith}
use Rattle.std.proofs.lemmas.List.{length-append}
use Rattle.std.proofs.lemmas.Bool.{cond-true, cond-false}
use Rattle.signs.specs.declared.reader.Reader.{Reader}
use Rattle.signs.specs.declared.sign.SignFault.{SignFault}
use Rattle.signs.specs.declared.sign.Mark.TheVariants.{Comma, Semicolon}
use Rattle.signs.specs.Signs.{Kind, name, found, fault, next_sign}
use Rattle.signs.specs.Stands.{Stands}
use Rattle.signs.specs.Walk.{signs_from}
use Rattle.grammar.specs.declared.fault.GrammarFault.{GrammarFault}
use Rattle.grammar.specs.declared.fault.GrammarFault.TheVariants as faults
use Rattle.grammar.specs.Machine.{is_mark, name_due, name_read, rule_due, name_limit, run, refused}
use Rattle.names.specs.declared.table.Names.{Names}
use Rattle.names.specs.Names.{span_bytes, names_of, declared_answer, declared_names}
use Rattle.names.proofs.Lookup.{length_names}
use Rattle.rules.specs.declared.parser.Parser.{Parser}
use Rattle.rules.specs.Parts.{text_of, place_of, declared_in, signs_at}
use Rattle.rules.proofs.Moves.{Next, next_as}
use Rattle.rules.proofs.Parsing.{ahead, next_of, name_goes, mark_goes}
use Rattle.text.specs.Heads.{Named, Unnamed}
use Rattle.text.proofs.Heads.{head_name_due, head_name_read, head_bad, head_leads, head_over, head_misfits, name_bytes}

-- the names so far
pub record Onward (p q : Parser) : Type 0 where
  pub text : text_of q ≡ text_of p
  pub table : q.table ≡ p.table
  pub goes : run (name_due (declared_in p)) (signs_at p) ≡ run (name_due (declared_in q)) (signs_at q)

answer_none : (o : Option GrammarFault) → Ok tt ≡ declared_answer o → o ≡ None
answer_none None e = refl
answer_none (Some y) e = cc

answer_some : (o : Option GrammarFault) (y : GrammarFault) → Err y ≡ declared_answer o → o ≡ Some y
answer_some None y e = cc
answer_some (Some x) y e = let z : y ≡ x = cc in ap Some (sym z)

-- a name stands next in the parser's text, and is declared there as a part of a text that is the same
pub record NameNext (s : Parser) (t : List ℕ) (w : List ℕ) (f e : ℕ) : Type 0 where
  pub next : Next (text_of s) (place_of s) (name w) f e
  pub same : t ≡ text_of s
  pub bytes : span_bytes t (record { from = f; to = e }) ≡ w

pub name_next : (s : Parser) (t : List ℕ) (k : Kind) (w : List ℕ) (f e : ℕ) → k ≡ name w → t ≡ text_of s → found k f e ≡ next_sign (text_of s) (place_of s) → Stands (text_of s) (place_of s) (found k f e) → NameNext s t w f e
name_next s t k w f e is same v st = record {
  next = next_as (next_of s k f e v) is;
  same = same;
  bytes = ap (λ x. span_bytes x (record { from = f; to = e })) same ∙ name_bytes (subst (λ x. Stands (text_of s) (place_of s) (found x f e)) is st);
}

module _ {s : Parser} {t w : List ℕ} {f e : ℕ} (n : NameNext s t w f e) where
  limit_here : name_limit (names_of t s.names) (span_bytes t (record { from = f; to = e })) f ≡ name_limit (declared_in s) w f
  limit_here = ap (λ x. name_limit (names_of t s.names) x f) n.bytes ∙ ap (λ x. name_limit (names_of x s.names) w f) n.same

  pub name_refused : {y : GrammarFault} → Err y ≡ declared_answer (name_limit (names_of t s.names) (span_bytes t (record { from = f; to = e })) f) → run (name_due (declared_in s)) (signs_at s) ≡ refused y
  name_refused {y} v = head_over (text_of s) (name_due (declared_in s)) head_name_due (name_read (declared_in s ++ (w ∷ []))) n.next refl (sym limit_here ∙ answer_some _ y v)

  declared_more : (m : Names) → Ok tt ≡ declared_answer (name_limit (names_of t s.names) (span_bytes t (record { from = f; to = e })) f) → names_of t m ≡ declared_names (names_of t s.names) (span_bytes t (record { from = f; to = e })) (name_limit (names_of t s.names) (span_bytes t (record { from = f; to = e })) f) → names_of (text_of s) m ≡ declared_in s ++ (w ∷ [])
  declared_more m v a =
      ap (λ x. names_of x m) (sym n.same) ∙ a
      ∙ ap (declared_names (names_of t s.names) (span_bytes t (record { from = f; to = e }))) (answer_none _ v)
      ∙ ap (λ x. names_of t s.names ++ (x ∷ [])) n.bytes
      ∙ ap (λ x. names_of x s.names ++ (w ∷ [])) n.same

  pub name_declared : (m : Names) → Ok tt ≡ declared_answer (name_limit (names_of t s.names) (span_bytes t (record { from = f; to = e })) f) → names_of t m ≡ declared_names (names_of t s.names) (span_bytes t (record { from = f; to = e })) (name_limit (names_of t s.names) (span_bytes t (record { from = f; to = e })) f) →
      run (name_due (declared_in s)) (signs_at s) ≡ run (name_read (names_of (text_of s) m)) (signs_from (text_of s) e)
  name_declared m v a =
      head_leads (text_of s) (name_due (declared_in s)) head_name_due (name_read (declared_in s ++ (w ∷ []))) n.next refl (sym limit_here ∙ answer_none _ v)
      ∙ ap (λ x. run (name_read x) (signs_from (text_of s) e)) (sym (declared_more m v a))

  pub some_name : (m : Names) → Ok tt ≡ declared_answer (name_limit (names_of t s.names) (span_bytes t (record { from = f; to = e })) f) → names_of t m ≡ declared_names (names_of t s.names) (span_bytes t (record { from = f; to = e })) (name_limit (names_of t s.names) (span_bytes t (record { from = f; to = e })) f) → 1 ≤ m.count
  some_name m v a = omega (arith, length_names (text_of s) m, ap length (declared_more m v a), length-append (declared_in s) (w ∷ []))

-- A name was read and declared: from s to the reader r and the names m.
pub record NameRead (s : Parser) (r : Reader) (m : Names) : Type 0 where
  pub text : r.text.now ≡ text_of s
  pub place : place_of s < r.at
  pub some : 1 ≤ m.count
  pub goes : run (name_due (declared_in s)) (signs_at s) ≡ run (name_read (names_of (text_of s) m)) (signs_from (text_of s) r.at)

pub name_was_read : {s : Parser} {t w : List ℕ} {f e : ℕ} → NameNext s t w f e → (r : Reader) (m : Names) → r.text.now ≡ text_of s → r.at ≡ e →
    Ok tt ≡ declared_answer (name_limit (names_of t s.names) (span_bytes t (record { from = f; to = e })) f) → names_of t m ≡ declared_names (names_of t s.names) (span_bytes t (record { from = f; to = e })) (name_limit (names_of t s.names) (span_bytes t (record { from = f; to = e })) f) → NameRead s r m
name_was_read {s} {t} {w} {f} {e} n r m same at v a = record {
  text = same;
  place = omega (arith, at, ahead n.next (name_goes refl));
  some = some_name n m v a;
  goes = name_declared n m v a ∙ ap (λ x. run (name_read (names_of (text_of s) m)) (signs_from (text_of s) x)) (sym at);
}

-- the sign behind a name: the reader r comes to the reader q
module _ {p s : Parser} {r : Reader} {m : Names} (o : Onward p s) (n : NameRead s r m) where
  next_here : {k : Kind} {f e : ℕ} → found k f e ≡ next_sign r.text.now r.at → Next (text_of s) r.at k f e
  next_here {k} {f} {e} v = record { within = subst (λ x. r.at ≤ length x) n.text r.within; is = sym (v ∙ ap (λ x. next_sign x r.at) n.text) }

  pub behind_bad : {y : SignFault} → fault y ≡ next_sign r.text.now r.at → Unnamed p (faults.Sign y)
  behind_bad {y} v = record { stops = o.goes ∙ n.goes ∙ head_bad (text_of s) (name_read (names_of (text_of s) m)) head_name_read (record { within = subst (λ x. r.at ≤ length x) n.text r.within; is = sym (v ∙ ap (λ x. next_sign x r.at) n.text) }) }

  pub behind_misfits : {k : Kind} {f e : ℕ} → found k f e ≡ next_sign r.text.now r.at → is_mark Semicolon k ≡ false → is_mark Comma k ≡ false → Unnamed p (faults.Misfit f)
  behind_misfits v a b = record { stops = o.goes ∙ n.goes ∙ head_misfits (text_of s) (name_read (names_of (text_of s) m)) head_name_read (next_here v) (cond-false _ _ _ b ∙ cond-false _ _ _ a) }

  module _ (q : Reader) {k : Kind} {f e : ℕ} (v : found k f e ≡ next_sign r.text.now r.at) (same : q.text.now ≡ r.text.now) (at : q.at ≡ e) where
    pub semicolon_read : is_mark Semicolon k ≡ true → is_mark Comma k ≡ false → Named p (record { reader = q; names = m; table = s.table })
    semicolon_read a b = record {
      text = same ∙ n.text ∙ o.text;
      table = o.table;
      some = n.some;
      goes = o.goes ∙ n.goes ∙ head_leads (text_of s) (name_read (names_of (text_of s) m)) head_name_read (rule_due (names_of (text_of s) m)) (next_here v) (cond-false _ _ _ b ∙ cond-true _ _ _ a) refl
          ∙ ap (λ x. run (rule_due (names_of (text_of s) m)) (signs_from (text_of s) x)) (sym at)
          ∙ ap (λ x. run (rule_due (names_of x m)) (signs_from x q.at)) (sym (same ∙ n.text));
    }

    pub comma_read : is_mark Comma k ≡ true → Onward p (record { reader = q; names = m; table = s.table })
    comma_read a = record {
      text = same ∙ n.text ∙ o.text;
      table = o.table;
      goes = o.goes ∙ n.goes ∙ head_leads (text_of s) (name_read (names_of (text_of s) m)) head_name_read (name_due (names_of (text_of s) m)) (next_here v) (cond-true _ _ _ a) refl
          ∙ ap (λ x. run (name_due (names_of (text_of s) m)) (signs_from (text_of s) x)) (sym at)
          ∙ ap (λ x. run (name_due (names_of x m)) (signs_from x q.at)) (sym (same ∙ n.text));
    }

    pub comma_falls : is_mark Comma k ≡ true → length q.text.now - q.at < length (text_of s) - place_of s
    comma_falls a =
        let up : r.at < e = ahead (next_here v) (mark_goes Comma a) in
        let all : length q.text.now ≡ length (text_of s) = ap length (same ∙ n.text) in
        omega (arith, n.place, q.within)
