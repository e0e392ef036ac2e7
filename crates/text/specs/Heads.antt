-- What it means that a mark, the names of a policy or the whole of it were read. Assumes nothing.
use Rattle.std.specs.Prelude.{◌≡◌, ℕ, ◌≤◌, Bool, true, false, [], length, Ok, Err, Result, ◌≢◌}
use Rattle.lines.specs.Forms.{Form, declared}
use Rattle.lines.specs.Written.{Written}
use Rattle.signs.specs.declared.sign.Mark.{Mark}
use Rattle.signs.specs.declared.sign.SignFault.{SignFault}
use Rattle.signs.specs.declared.sign.Sign.{Sign}
use Rattle.signs.specs.Signs.{Kind, mark, end, kind_of, found, fault, next_sign}
use Rattle.grammar.specs.declared.fault.GrammarFault.{GrammarFault}
use Rattle.grammar.specs.declared.fault.GrammarFault.TheVariants as faults
use Rattle.grammar.specs.Machine.{is_mark, name_due, rule_due, run, accepted, refused, outcome}
use Rattle.rules.specs.declared.parser.Parser.{Parser}
use Rattle.rules.specs.Parts.{text_of, place_of, declared_in, signs_at, lines_in, count_in, Over}

-- the sign that has to come next did not: no sign can be read there, or another came
pub data Missing (p : Parser) (k : Kind → Type 0) : GrammarFault → Type 0 where
  unread : {y : SignFault} → next_sign (text_of p) (place_of p) ≡ fault y → Missing p k (faults.Sign y)
  other : {j : Kind} {f e : ℕ} → next_sign (text_of p) (place_of p) ≡ found j f e → k j → Missing p k (faults.Misfit f)

-- a call that answers by a test: what comes back of each sign is what the test says of its kind
abbrev pub Tells : (Sign → Bool → Type 0) → (Kind → Bool) → Type 0
Tells gives test = (s : Sign) (r : Bool) → gives s r → r ≡ test (kind_of s)

-- the sign that has to come next is one that passes the test
abbrev pub SignRead : (Kind → Bool) → Parser → Parser → Result (Unit {0}) GrammarFault → Type 0
SignRead test p q (Ok x) = (k : Kind) × (test k ≡ true) × Over p q k
SignRead test p q (Err e) = Missing p (λ j. test j ≡ false) e

abbrev pub MarkRead : Mark → Parser → Parser → Result (Unit {0}) GrammarFault → Type 0
MarkRead m p q (Ok x) = Over p q (mark m)
MarkRead m p q (Err e) = Missing p (λ j. is_mark m j ≡ false) e

abbrev pub EndRead : Parser → Parser → Result (Unit {0}) GrammarFault → Type 0
EndRead p q (Ok x) = Over p q end
EndRead p q (Err e) = Missing p (λ j. j ≢ end) e

-- from p, where a name is due, the names were read up to the semicolon behind them
pub record Named (p q : Parser) : Type 0 where
  pub text : text_of q ≡ text_of p
  pub table : q.table ≡ p.table
  pub some : 1 ≤ q.names.count
  pub goes : run (name_due (declared_in p)) (signs_at p) ≡ run (rule_due (declared_in q)) (signs_at q)

-- they cannot be
pub record Unnamed (p : Parser) (e : GrammarFault) : Type 0 where
  pub stops : run (name_due (declared_in p)) (signs_at p) ≡ refused e

abbrev pub NamesRead : Parser → Parser → Result (Unit {0}) GrammarFault → Type 0
NamesRead p q (Ok x) = Named p q
NamesRead p q (Err e) = Unnamed p e

-- a parser before its first sign
pub record Fresh (p : Parser) : Type 0 where
  pub place : place_of p ≡ 0
  pub names : p.names.count ≡ 0
  pub count : count_in p ≡ 0
  pub lines_are : lines_in p ≡ []

-- the whole text was read
pub record Accepts (p q : Parser) : Type 0 where
  pub form : Form
  pub last : ℕ
  pub text : text_of q ≡ text_of p
  pub comes : outcome (text_of p) ≡ accepted (declared_in q) form
  pub some : 1 ≤ q.names.count
  pub atoms : declared (length (declared_in q)) form ≡ true
  pub lines_are : Written 0 [] (lines_in q) (count_in q) form last

pub record Refuses (p : Parser) (e : GrammarFault) : Type 0 where
  pub comes : outcome (text_of p) ≡ refused e

abbrev pub Parsed : Parser → Parser → Result (Unit {0}) GrammarFault → Type 0
Parsed p q (Ok x) = Accepts p q
Parsed p q (Err e) = Refuses p e
