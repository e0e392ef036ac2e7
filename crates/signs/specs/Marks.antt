-- The marks and how they are spelled. Assumes nothing.
use Rattle.std.specs.Prelude.{ℕ, Bool, List, codes, ◌==◌}
use Rattle.signs.specs.declared.sign.Mark.{Mark}
use Rattle.signs.specs.declared.sign.Mark.TheVariants.{Open, Close, Not, And, Or, Arrow, Comma, Semicolon, Stop, YL, SL, OL, HL, YG, SG, OG, HG, Atoms, Rule, True, False}

abbrev pub mark_spelling : Mark → List ℕ
mark_spelling Open = codes "("
mark_spelling Close = codes ")"
mark_spelling Not = codes "~"
mark_spelling And = codes "&"
mark_spelling Or = codes "|"
mark_spelling Arrow = codes "->"
mark_spelling Comma = codes ","
mark_spelling Semicolon = codes ";"
mark_spelling Stop = codes "."
mark_spelling YL = codes "YL"
mark_spelling SL = codes "SL"
mark_spelling OL = codes "OL"
mark_spelling HL = codes "HL"
mark_spelling YG = codes "YG"
mark_spelling SG = codes "SG"
mark_spelling OG = codes "OG"
mark_spelling HG = codes "HG"
mark_spelling Atoms = codes "atoms"
mark_spelling Rule = codes "rule"
mark_spelling True = codes "true"
mark_spelling False = codes "false"

-- marks are told apart by their place in this list
abbrev pub mark_number : Mark → ℕ
mark_number Open = 0
mark_number Close = 1
mark_number Not = 2
mark_number And = 3
mark_number Or = 4
mark_number Arrow = 5
mark_number Comma = 6
mark_number Semicolon = 7
mark_number Stop = 8
mark_number YL = 9
mark_number SL = 10
mark_number OL = 11
mark_number HL = 12
mark_number YG = 13
mark_number SG = 14
mark_number OG = 15
mark_number HG = 16
mark_number Atoms = 17
mark_number Rule = 18
mark_number True = 19
mark_number False = 20

abbrev pub same_mark : Mark → Mark → Bool
same_mark m n = mark_number m == mark_number n
