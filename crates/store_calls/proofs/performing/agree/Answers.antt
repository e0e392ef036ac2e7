use Rattle.std.proofs.Common.{◌&&◌, map, get_or, sym, ap, ◌∙◌, subst, rules}
use Rattle.std.proofs.lemmas.List.{take_all, map_more}
use Rattle.store_calls.specs.declared.call.StoreCall.TheVariants.{Width}
use Rattle.store_calls.specs.Calls.{Setting, asked, setting}
use Rattle.store_calls.proofs.Calls.{Performed, performed_more, performed_alike, pair_decides}
use Rattle.store_calls.proofs.performing.agree.Goals as goal

pub loop-call-preserved : goal.loop-call-preserved
loop-call-preserved g c =
    let v = c.loop-call.invariant in
    let calls = c.args.calls.now in
    let i = c.loop-call.call-index in
    let x = c.perform-x.ensures in
    let y = c.perform-y.ensures in
    let s = setting (g.S.Store.meaning c.args.one.now) c.args.a.now in
    let t = setting (g.T.Store.meaning c.args.other.now) c.args.b.now in
    let s' = setting (g.S.Store.meaning c.perform-x.new.store) c.perform-x.new.room in
    let t' = setting (g.T.Store.meaning c.perform-y.new.store) c.perform-y.new.room in (
      subst (λ cs. Performed s t cs s' t' (c.loop-call.alike && c.eq-alike.result)) (sym (map_more asked calls i Width c.loop-call-test.true))
          (performed_more v.0 (asked (get_or calls i Width)) c.perform-x.result c.perform-y.result s' t' c.eq-alike.result x.value y.value x.after y.after (pair_decides (λ a b. search rules) (λ a b. search rules) _ _ _ _ c.eq-alike.result c.eq-alike.ensures)),
      x.same ∙ v.1,
      y.same ∙ v.2,
    )

pub returns : goal.returns
returns g c =
    let v = c.loop-call.invariant in
    let calls = c.args.calls.now in
    let s = setting (g.S.Store.meaning c.args.one.now) c.args.a.now in
    let t = setting (g.T.Store.meaning c.args.other.now) c.args.b.now in
    let s' = setting (g.S.Store.meaning c.loop-call.one) c.loop-call.a in
    let t' = setting (g.T.Store.meaning c.loop-call.other) c.loop-call.b in
    let all : Performed s t (map asked calls) s' t' c.loop-call.alike = subst (λ l. Performed s t (map asked l) s' t' c.loop-call.alike) (take_all c.loop-call.call-index calls c.loop-call-test.false) v.0 in
    record {
      value = all.same;
      after = (all.one, all.other);
      alike = λ e f.
          let both = performed_alike all (λ i. setting (e i) (f i)) in
          (both.0, ap (λ (w : Setting). w.meaning) both.1, ap (λ (w : Setting). w.room) both.1);
      same = (v.1, v.2);
    }
