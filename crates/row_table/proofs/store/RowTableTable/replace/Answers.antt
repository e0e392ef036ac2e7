use Rattle.std.proofs.Common.{vec_items, arith}
use Rattle.stores.proofs.Bytes.{bytes_read}
use Rattle.row_table.specs.Keeping.{kept_in, means_in}
use Rattle.row_table.proofs.Calls.{writes, pasted}
use Rattle.row_table.proofs.store.RowTableTable.replace.Goals as goal

pub invariant_of-self : goal.invariant_of-self
invariant_of-self c =
    let t = c.args.self.now in
    let rec = c.args.rec.now in
    let is = pasted _ t.bounds.width c.deref_mut.ensures.value c.place_of-at.ensures.value c.copy_from_slice.ensures.after (omega arith) (omega arith) in
    record { kept = kept_in t.memory (writes t.bounds (vec_items t.memory) t.kept _ rec c.requires.long (bytes_read rec c.type_inv.rec) c.args.run c.requires.held.0 c.requires.held.1 is) }

pub returns-clause-after : goal.returns-clause-after
returns-clause-after c =
    let t = c.args.self.now in
    let rec = c.args.rec.now in
    let is = pasted _ t.bounds.width c.deref_mut.ensures.value c.place_of-at.ensures.value c.copy_from_slice.ensures.after (omega arith) (omega arith) in
    means_in t.memory (writes t.bounds (vec_items t.memory) t.kept _ rec c.requires.long (bytes_read rec c.type_inv.rec) c.args.run c.requires.held.0 c.requires.held.1 is)
