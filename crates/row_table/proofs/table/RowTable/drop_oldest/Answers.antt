use Rattle.std.proofs.Common.{◌≡◌, ◌+◌, ◌-◌, drop, vec_items, sym, ap, ◌∙◌, arith}
use Rattle.std.proofs.lemmas.List.{length-replicate}
use Rattle.stores.specs.Bounds.{from_run}
use Rattle.row_table.specs.Table.{means}
use Rattle.row_table.specs.Keeping.{holding, kept_in, means_in}
use Rattle.row_table.proofs.Calls.{drops, pasted, zeroed}
use Rattle.row_table.proofs.table.RowTable.drop_oldest.Goals as goal

pub invariant_of-self : goal.invariant_of-self
invariant_of-self c =
    let t = c.args.self.now in
    let w = t.bounds.width in
    let zeros = zeroed c.deref_mut.result.now _ c.place_of-at.result w (omega arith) (c.fill.ensures.after (λ y h. h)) in
    let is = pasted _ w c.deref_mut.ensures.value c.place_of-at.ensures.value zeros (omega arith) (sym (length-replicate w 0)) in
    record { kept = kept_in t.memory (drops t.bounds (vec_items t.memory) t.kept _ c.requires is) }

pub returns-clause-after : goal.returns-clause-after
returns-clause-after c =
    let t = c.args.self.now in
    let w = t.bounds.width in
    let low = t.bounds.low in
    let one : 1 ≡ low + 1 - low = omega arith in
    let zeros = zeroed c.deref_mut.result.now _ c.place_of-at.result w (omega arith) (c.fill.ensures.after (λ y h. h)) in
    let is = pasted _ w c.deref_mut.ensures.value c.place_of-at.ensures.value zeros (omega arith) (sym (length-replicate w 0)) in
    means_in t.memory (drops t.bounds (vec_items t.memory) t.kept _ c.requires is) ∙ ap (λ n. holding (from_run t.bounds (low + 1)) (drop n (means t).records)) one
