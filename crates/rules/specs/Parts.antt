-- What it means that a part of the rule was read: from one place to another the machine goes from where the part is
-- due to where it is read, and the lines of its form were written. Assumes nothing.
use Rattle.std.specs.Prelude.{◌≡◌, ℕ, ◌+◌, ◌*◌, ◌<◌, ◌≤◌, Bool, true, false, List, [], length, None, Ok, Err, Option, Result}
use Rattle.lines.specs.declared.line.Line.{Line}
use Rattle.lines.specs.declared.line.Prefix.{Prefix}
use Rattle.lines.specs.Forms.{Form, declared}
use Rattle.lines.specs.Written.{kept_lines, Written}
use Rattle.signs.specs.declared.sign.Mark.{Mark}
use Rattle.signs.specs.declared.sign.SignFault.{SignFault}
use Rattle.signs.specs.Signs.{Kind, mark, found, fault, next_sign}
use Rattle.signs.specs.Walk.{Signs, signs_from}
use Rattle.grammar.specs.declared.fault.GrammarFault.{GrammarFault}
use Rattle.grammar.specs.declared.fault.GrammarFault.TheVariants as faults
use Rattle.grammar.specs.Machine.{is_mark, wrapped, Lefts, Bracket, Point, due, unit_read, link_read, conj_read, disj_read, form_read, in_rule, lefts, no_lefts, with_prefixes, open_brackets, run, refused}
use Rattle.names.specs.Names.{names_of}
use Rattle.rules.specs.declared.parser.Parser.{Parser}

abbrev pub text_of : Parser → List ℕ
text_of p = p.reader.text.now

abbrev pub place_of : Parser → ℕ
place_of p = p.reader.at

abbrev pub declared_in : Parser → List (List ℕ)
declared_in p = names_of (text_of p) p.names

abbrev pub signs_at : Parser → Signs
signs_at p = signs_from (text_of p) (place_of p)

abbrev pub lines_in : Parser → List Line
lines_in p = kept_lines p.table

abbrev pub count_in : Parser → ℕ
count_in p = p.table.count

-- the sign k came next, and the parser stands behind it
pub record Over (p q : Parser) (k : Kind) : Type 0 where
  pub from : ℕ
  pub is : next_sign (text_of p) (place_of p) ≡ found k from (place_of q)
  pub text : text_of q ≡ text_of p
  pub names : q.names ≡ p.names
  pub table : q.table ≡ p.table

-- another sign than the mark m came next, and the parser stays before it
pub record Passed (m : Mark) (p q : Parser) : Type 0 where
  pub sign : Kind
  pub from : ℕ
  pub behind : ℕ
  pub is : next_sign (text_of p) (place_of p) ≡ found sign from behind
  pub differs : is_mark m sign ≡ false
  pub stays : q ≡ p

-- no sign can be read there
pub data Unread (p : Parser) : GrammarFault → Type 0 where
  unread : {y : SignFault} → next_sign (text_of p) (place_of p) ≡ fault y → Unread p (faults.Sign y)

abbrev pub Takes : Mark → Parser → Parser → Result Bool GrammarFault → Type 0
Takes m p q (Ok true) = Over p q (mark m)
Takes m p q (Ok false) = Passed m p q
Takes m p q (Err e) = Unread p e

-- The parts of a rule.
pub data Part : Type 0 where
  a_unit : Part
  a_link : Part
  a_conj : Part
  a_disj : Part
  a_form : Part

-- what waits around a part: the prefixes before it, the left sides of the infixes around it and the open brackets
abbrev pub Around : Part → Type 0
Around a_unit = List Prefix × Lefts × List Bracket
Around a_link = Option Form × Option Form × Option Form × List Bracket
Around a_conj = Option Form × Option Form × List Bracket
Around a_disj = Option Form × List Bracket
Around a_form = List Bracket

-- the point at which a part is due
abbrev pub due_at : (k : Part) → Around k → Point
due_at a_unit w = due w.0 w.1 w.2
due_at a_link w = due [] (lefts None w.0 w.1 w.2) w.3
due_at a_conj w = due [] (lefts None None w.0 w.1) w.2
due_at a_disj w = due [] (lefts None None None w.0) w.1
due_at a_form w = due [] no_lefts w

-- the point at which it is read
abbrev pub read_at : (k : Part) → Form → Around k → Point
read_at a_unit f w = unit_read (wrapped w.0 f) w.1 w.2
read_at a_link f w = link_read f w.0 w.1 w.2 w.3
read_at a_conj f w = conj_read f w.0 w.1 w.2
read_at a_disj f w = disj_read f w.0 w.1
read_at a_form f w = form_read f w

-- the point at which a chain of `&` or `|` has come to the form f, and may go on
abbrev pub chain_at : (k : Part) → Form → Around k → Point
chain_at a_unit f w = read_at a_unit f w
chain_at a_link f w = read_at a_link f w
chain_at a_conj f w = link_read f None w.0 w.1 w.2
chain_at a_disj f w = conj_read f None w.0 w.1
chain_at a_form f w = read_at a_form f w

-- how many brackets and prefixes are open around it
abbrev pub depth_at : (k : Part) → Around k → ℕ
depth_at a_unit w = with_prefixes w.0 (open_brackets w.2)
depth_at a_link w = open_brackets w.3
depth_at a_conj w = open_brackets w.2
depth_at a_disj w = open_brackets w.1
depth_at a_form w = open_brackets w

-- the reading goes on in the same text, and writes at most four lines a byte
pub record Onward (p q : Parser) : Type 0 where
  pub text : text_of q ≡ text_of p
  pub names : q.names ≡ p.names
  pub place : place_of p < place_of q
  pub credit : count_in q + 4 * place_of p ≤ count_in p + 4 * place_of q

-- so there is room for the numbers of lines
pub record Room (p : Parser) : Type 0 where
  pub short : length (text_of p) ≤ 8192
  pub credit : count_in p ≤ 4 * place_of p

-- from p to q a part was read, at this depth, and its last line is line r
pub record Done (k : Part) (p : Parser) (d : ℕ) (q : Parser) (r : ℕ) : Type 0 where
  pub onward : Onward p q
  pub form : Form
  pub atoms : declared (length (declared_in p)) form ≡ true
  pub goes : (w : Around k) → depth_at k w ≡ d → run (in_rule (declared_in p) (due_at k w)) (signs_at p) ≡ run (in_rule (declared_in p) (read_at k form w)) (signs_at q)
  pub lines_are : Written (count_in p) (lines_in p) (lines_in q) (count_in q) form r

-- the part cannot be read
pub record Fails (k : Part) (p : Parser) (d : ℕ) (e : GrammarFault) : Type 0 where
  pub stops : (w : Around k) → depth_at k w ≡ d → run (in_rule (declared_in p) (due_at k w)) (signs_at p) ≡ refused e

abbrev pub Reads : Part → Parser → ℕ → Parser → Result ℕ GrammarFault → Type 0
Reads k p d q (Ok r) = Done k p d q r
Reads k p d q (Err e) = Fails k p d e
