use Rattle.std.proofs.Common.{arith}
use mir.Facts.{Fits-of_lt}
use Rattle.stretch_table.proofs.Calls.{room_more, last_small, added_same, added_new}
use Rattle.stretch_table.proofs.table.StretchRecordsTable.add.Goals as goal

pub overflow_add-count : goal.overflow_add-count
overflow_add-count c =
    let s = c.args.self.now in
    Fits-of_lt (omega (arith, last_small s.entries s.kept c.args.rec.now c.ends_with.result c.ends_with.ensures.value c.if-ends_with.true, c.count-count.ensures.value))

pub invariant_of-self-then-ends_with : goal.invariant_of-self-then-ends_with
invariant_of-self-then-ends_with c =
    let s = c.args.self.now in
    let e = c.set_count.ensures in
    record {
      kept = (added_same s.entries s.kept c.args.rec.now c.ends_with.result c.ends_with.ensures.value c.requires.last c.requires.room c.set_count.new.self e.same c.if-ends_with.true
          c.count-count.result c.count-count.ensures.value e.after).kept;
    }

pub returns-then-ends_with-clause-after : goal.returns-then-ends_with-clause-after
returns-then-ends_with-clause-after c =
    let s = c.args.self.now in
    let e = c.set_count.ensures in
    (added_same s.entries s.kept c.args.rec.now c.ends_with.result c.ends_with.ensures.value c.requires.last c.requires.room c.set_count.new.self e.same c.if-ends_with.true
    c.count-count.result c.count-count.ensures.value e.after).means

pub push-requires-clause-room : goal.push-requires-clause-room
push-requires-clause-room c = room_more c.args.self.now.entries c.args.self.now.kept c.requires.room

pub invariant_of-self-2 : goal.invariant_of-self-2
invariant_of-self-2 c =
    let s = c.args.self.now in
    record {
      kept = (added_new s.entries s.kept c.args.rec.now c.ends_with.result c.ends_with.ensures.value c.requires.last c.requires.room c.push.new.self c.push.ensures.same c.if-ends_with.false c.push.ensures.after).kept;
    }

pub returns-clause-after : goal.returns-clause-after
returns-clause-after c =
    let s = c.args.self.now in
    (added_new s.entries s.kept c.args.rec.now c.ends_with.result c.ends_with.ensures.value c.requires.last c.requires.room c.push.new.self c.push.ensures.same c.if-ends_with.false c.push.ensures.after).means
