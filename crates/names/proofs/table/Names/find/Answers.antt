use Rattle.std.proofs.Common.{◌≡◌, take, rules, tests, ◌∙◌}
use Rattle.std.specs.Str.{bytes_eq}
use Rattle.std.proofs.lemmas.Iterator.{YieldsList-from_slice}
use Rattle.std.proofs.lemmas.Iterator.Search.{position_from_yields_List}
use Rattle.names.specs.Names.{span_bytes, names_of, lookup}
use Rattle.names.proofs.Lookup.{lookup_is}
use Rattle.names.proofs.table.Names.find.Goals as goal

pub returns : goal.returns
returns c =
    let n = c.args.self.now in
    let text = c.args.text.now in
    let w = c.args.word.now in
    let place : c.position.result ≡ lookup (names_of text n) w =
    position_from_yields_List (λ s. bytes_eq (span_bytes text s) w) _ _ c.position.result c.position.ensures.ran (YieldsList-from_slice (take n.count n.spans) (cc)) (λ x b q k. search (rules, tests))
    ∙ lookup_is text w n in
    search (rules, place)
