use Rattle.std.proofs.Common.{◌≡◌, false, refl}
use Rattle.std.specs.Option.{is_some}
use Rattle.names.specs.Names.{span_bytes, names_of, lookup}
use Rattle.names.proofs.Lookup.{limit_many, limit_none, one_more}
use Rattle.names.proofs.table.Names.declare.Goals as goal

pub returns-then-self-ge-MOST_ATOMS : goal.returns-then-self-ge-MOST_ATOMS
returns-then-self-ge-MOST_ATOMS c =
    let n = c.args.self.now in
    let w = span_bytes c.args.text.now c.args.name in
    let fresh : is_some (lookup (names_of c.args.text.now n) w) ≡ false = cc in
    rw (limit_many c.args.text.now n w c.args.name.from fresh c.if-self-ge-MOST_ATOMS.true) (record { value = refl; after = refl })

pub returns : goal.returns
returns c =
    let n = c.args.self.now in
    let w = span_bytes c.args.text.now c.args.name in
    let fresh : is_some (lookup (names_of c.args.text.now n) w) ≡ false = cc in
    rw (limit_none c.args.text.now n w c.args.name.from fresh c.if-self-ge-MOST_ATOMS.false) (record { value = refl; after = one_more c.args.text.now n c.args.name c.if-self-ge-MOST_ATOMS.false })
