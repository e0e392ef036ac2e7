-- The memory is just what 64 records take.
use Rattle.std.proofs.Common.{◌≡◌, ◌*◌, ◌≤◌, vec_len, sym, ◌∙◌, arith, rules}
use Rattle.console.proofs.Making.{makes_64}
use Rattle.console.proofs.room.Room.open.Goals as goal

pub returns-clause-book : goal.returns-clause-book
returns-clause-book c =
    let w = c.record_width-width.result in
    let narrow : 4 ≤ w = search rules in
    let wide : w ≤ 289 = search rules in
    let size : vec_len c.truncate.new.self ≡ 64 * w = omega (arith, c.truncate.ensures.len, c.args.self.records) in
    let made = sym c.in-Ok.ensures.value.0 ∙ makes_64 w (vec_len c.truncate.new.self) narrow wide size in
    let limit : c.in-Ok.table.bounds.limit ≡ 64 = cc in
    search rules
