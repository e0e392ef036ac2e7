use Rattle.std.proofs.Common.{◌≡◌, ◌+◌, ◌-◌, ◌*◌, ◌≤◌, cond, length, get_or, Some, None, Ok, sym, ap, ◌∙◌, subst, arith}
use Rattle.std.proofs.lemmas.Bool.{ne_eqb}
use Rattle.logic.specs.History.{high}
use Rattle.logic.specs.Rows.{verdict}
use Rattle.meaning.specs.declared.fault.BookFault.TheVariants.{NoRuns}
use Rattle.meaning.specs.Records.{record_of, truths_of}
use Rattle.meaning.specs.Calls.{unless}
use Rattle.meaning.specs.Walking.{Reads}
use Rattle.meaning.proofs.Verdicts.{verdict_is}
use Rattle.meaning.proofs.Walks.{highs}
use Rattle.monitor.proofs.asking.verdict.Goals as goal

pub returns : goal.returns
returns g c = record {
  value = λ K ls h rep long.
      let m = g.S.Store.meaning c.args.store.now in
      let a = c.args.atoms in
      let sound = g.met.S.Store.sound c.args.store.now in
      let t = highs K ls a m.limit h m (record_of K ls h) rep sound in
      let some : high h ≡ 0 → ⊥ = λ e. c.if-newest-eq0.false (c.high-newest.ensures.value ∙ t ∙ e) in
      let one : 1 ≤ high h = omega arith in
      let rec = c.fetch.new.rec in
      ap Ok (c.truth_at.ensures.value ∙ ap (λ n. get_or (truths_of a n rec) (n - 1) 0) (sym long)
      ∙ verdict_is K ls a h m rep sound one (length c.args.rec.now) rec (subst (λ n. 1 ≤ n) (sym long) c.requires.some) (c.requires.rec ∙ ap (λ n. 1 + a + 2 * n) (sym long))
      (subst (λ n. Reads m (length c.args.rec.now) n rec) c.high-newest.ensures.value c.fetch.ensures))
      ∙ sym (ap (λ b. unless (cond b (Some NoRuns) None) (verdict K ls h)) (ne_eqb (high h) 0 some));
}
