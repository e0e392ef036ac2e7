use Rattle.std.proofs.Common.{◌≡◌, ◌+◌, ◌<◌, vec_items, subst, arith}
use Rattle.stretch_table.specs.Entries.{stretch_at}
use Rattle.stretch_table.proofs.Finding.{some_entry, first_entry, found}
use Rattle.stretch_table.proofs.entries.Entries.find.Goals as goal

pub loop-from-init : goal.loop-from-init
loop-from-init c =
    let es = c.args.self.now in
    let m = vec_items es.bytes in
    let k = c.requires.kept in
    let held = c.requires.held in (
      some_entry es.bounds es.used m k c.args.run held.0 held.1,
      omega arith,
      first_entry es.bounds es.used m k c.args.run held.0 held.1,
      λ lt. absurd (omega arith),
    )

pub returns-clause-to : goal.returns-clause-to
returns-clause-to c =
    let es = c.args.self.now in
    let m = vec_items es.bytes in
    let i = c.loop-from.invariant in
    let held = c.requires.held in
    let end : c.loop-from.to ≡ c.loop-from.from + 1 = omega (arith, i) in
    found es.bounds es.used m c.requires.kept c.args.run held.0 held.1 c.loop-from.from (omega (arith, i))
    (λ lt. subst (λ n. c.args.run < (stretch_at es.bounds.width m n).first) end (i.3 (omega arith)))
