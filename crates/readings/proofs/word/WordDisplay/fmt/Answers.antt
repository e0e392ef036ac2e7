-- ASCII bytes are their own characters.
use Rattle.std.proofs.Common.{◌≡◌, List, ℕ, sym, ◌∙◌, rules}
use Rattle.std.proofs.Output.{has_written_of_eq}
use Rattle.std.specs.Str.{IsAscii}
use Rattle.std.proofs.lemmas.Str.{encodes-IsAscii}
use Rattle.readings.specs.Written.{word_written}
use Rattle.readings.proofs.word.WordDisplay.fmt.Goals as goal

as_it_is : (bs : List ℕ) → IsAscii bs → bs ≡ word_written bs
as_it_is bs ascii = sym (encodes-IsAscii bs ascii)

pub returns-in-true-Ok-clause-writes : goal.returns-in-true-Ok-clause-writes
returns-in-true-Ok-clause-writes g c = λ plain ok.
    let name : c.in-true-Ok.name.now ≡ c.args.self.now.0.now = search rules in
    let ascii : IsAscii c.args.self.now.0.now = search rules in
    has_written_of_eq _ _ _ _ _ (name ∙ as_it_is _ ascii) (c.write_str.ensures.writes plain ok)
