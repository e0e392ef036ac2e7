-- The grammar of a policy text: which lists of signs are a policy, and what it says. One relation for
-- each rule of the grammar, one constructor for each of its productions. Assumes nothing.
--
--   policy = "atoms" name { "," name } ";" "rule" form "."
--   form   = disj [ "->" disj ]
--   disj   = conj { "|" conj }
--   conj   = link { "&" link }
--   link   = unit [ ("SL" or "SG") unit ]
--   unit   = prefix unit, or "(" form ")", or "true", "false", name
use Rattle.std.specs.Prelude.{ℕ, not, List, [], ◌∷◌, ◌++◌}
use Rattle.std.specs.List.{prefix_len}
use Rattle.std.specs.Str.{bytes_eq}
use Rattle.lines.specs.declared.line.Prefix.{Prefix}
use Rattle.lines.specs.declared.line.Prefix.TheVariants as single
use Rattle.lines.specs.declared.line.Infix.TheVariants as pair
use Rattle.lines.specs.Forms.{Form, atom, no, yes, prefixed, joined}
use Rattle.signs.specs.declared.sign.Mark.{Mark}
use Rattle.signs.specs.declared.sign.Mark.TheVariants.{Open, Close, Not, And, Or, Arrow, Comma, Semicolon, Stop, YL, SL, OL, HL, YG, SG, OG, HG, Atoms, Rule, True, False}
use Rattle.signs.specs.Signs.{Kind, mark, name}

abbrev pub prefix_mark : Prefix → Mark
prefix_mark single.Not = Not
prefix_mark single.YL = YL
prefix_mark single.OL = OL
prefix_mark single.HL = HL
prefix_mark single.YG = YG
prefix_mark single.OG = OG
prefix_mark single.HG = HG

-- An atom's number is its place among the declared names; a name that is not declared gets their number.
abbrev pub number : List (List ℕ) → List ℕ → ℕ
number names w = prefix_len (λ n. not (bytes_eq n w)) names

-- `IsUnit names s f`: the signs s are a unit that says f, where the atoms have these names.
mutual
  pub data IsUnit (names : List (List ℕ)) : List Kind → Form → Type 0 where
    is_name : (w : List ℕ) → IsUnit names (name w ∷ []) (atom (number names w))
    is_true : IsUnit names (mark True ∷ []) yes
    is_false : IsUnit names (mark False ∷ []) no
    is_prefixed : (o : Prefix) {s : List Kind} {f : Form} → IsUnit names s f → IsUnit names (mark (prefix_mark o) ∷ s) (prefixed o f)
    is_bracketed : {s : List Kind} {f : Form} → IsForm names s f → IsUnit names (mark Open ∷ (s ++ (mark Close ∷ []))) f

  pub data IsLink (names : List (List ℕ)) : List Kind → Form → Type 0 where
    is_unit : {s : List Kind} {f : Form} → IsUnit names s f → IsLink names s f
    is_since_local : {s t : List Kind} {f g : Form} → IsUnit names s f → IsUnit names t g → IsLink names (s ++ (mark SL ∷ t)) (joined pair.SL f g)
    is_since_global : {s t : List Kind} {f g : Form} → IsUnit names s f → IsUnit names t g → IsLink names (s ++ (mark SG ∷ t)) (joined pair.SG f g)

  -- chains group to the left
  pub data IsConj (names : List (List ℕ)) : List Kind → Form → Type 0 where
    is_link : {s : List Kind} {f : Form} → IsLink names s f → IsConj names s f
    is_and : {s t : List Kind} {f g : Form} → IsConj names s f → IsLink names t g → IsConj names (s ++ (mark And ∷ t)) (joined pair.And f g)

  pub data IsDisj (names : List (List ℕ)) : List Kind → Form → Type 0 where
    is_conj : {s : List Kind} {f : Form} → IsConj names s f → IsDisj names s f
    is_or : {s t : List Kind} {f g : Form} → IsDisj names s f → IsConj names t g → IsDisj names (s ++ (mark Or ∷ t)) (joined pair.Or f g)

  pub data IsForm (names : List (List ℕ)) : List Kind → Form → Type 0 where
    is_disj : {s : List Kind} {f : Form} → IsDisj names s f → IsForm names s f
    is_implies : {s t : List Kind} {f g : Form} → IsDisj names s f → IsDisj names t g → IsForm names (s ++ (mark Arrow ∷ t)) (joined pair.Implies f g)

-- the names between "atoms" and ";"
pub data AreNames : List Kind → List (List ℕ) → Type 0 where
  one_name : (w : List ℕ) → AreNames (name w ∷ []) (w ∷ [])
  one_more : {s : List Kind} {names : List (List ℕ)} → AreNames s names → (w : List ℕ) → AreNames (s ++ (mark Comma ∷ (name w ∷ []))) (names ++ (w ∷ []))

pub data IsPolicy : List Kind → List (List ℕ) → Form → Type 0 where
  is_policy : {s t : List Kind} {names : List (List ℕ)} {f : Form} → AreNames s names → IsForm names t f → IsPolicy (mark Atoms ∷ (s ++ (mark Semicolon ∷ (mark Rule ∷ (t ++ (mark Stop ∷ [])))))) names f

-- some signs more make a policy of these
pub record Begins (s : List Kind) : Type 0 where
  pub rest : List Kind
  pub names : List (List ℕ)
  pub form : Form
  pub policy : IsPolicy (s ++ rest) names form
