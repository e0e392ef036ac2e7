use Rattle.std.proofs.Common.{vec_items, arith}
use Rattle.stores.proofs.Bytes.{bytes_read}
use Rattle.row_table.specs.Keeping.{kept_in, means_in}
use Rattle.row_table.proofs.Calls.{appends, pasted}
use Rattle.row_table.proofs.store.RowTableTable.add.Goals as goal

pub invariant_of-self : goal.invariant_of-self
invariant_of-self c =
    let t = c.args.self.now in
    let rec = c.args.rec.now in
    let is = pasted _ t.bounds.width c.deref_mut.ensures.value c.place_of-at.ensures.value c.copy_from_slice.ensures.after (omega arith) (omega arith) in
    record { kept = kept_in t.memory (appends t.bounds (vec_items t.memory) t.kept _ rec c.requires.long (bytes_read rec c.type_inv.rec) c.requires.last c.requires.room is) }

pub returns-clause-after : goal.returns-clause-after
returns-clause-after c =
    let t = c.args.self.now in
    let rec = c.args.rec.now in
    let is = pasted _ t.bounds.width c.deref_mut.ensures.value c.place_of-at.ensures.value c.copy_from_slice.ensures.after (omega arith) (omega arith) in
    means_in t.memory (appends t.bounds (vec_items t.memory) t.kept _ rec c.requires.long (bytes_read rec c.type_inv.rec) c.requires.last c.requires.room is)
