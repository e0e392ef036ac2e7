-- The limits that the machine tests are those that the signs read so far give.
use Rattle.std.proofs.lemmas.Bool.{cond_both}
use Rattle.std.proofs.Common.{◌≡◌, ℕ, suc, Bool, true, false, cond, ◌||◌, ltb, List, [], ◌∷◌, ◌++◌, length, Some, None, Option, sym, refl, ap, ◌∙◌, append-nil, arith}
use Rattle.lines.specs.declared.line.Prefix.{Prefix}
use Rattle.lines.specs.declared.line.Infix.{Infix}
use Rattle.lines.specs.declared.line.Infix.TheVariants as pair
use Rattle.lines.specs.Forms.{Form, no, yes, joined}
use Rattle.signs.specs.declared.sign.Mark.{Mark}
use Rattle.signs.specs.declared.sign.Mark.TheVariants.{Open, Close, Not, And, Or, Arrow, Comma, Semicolon, Stop, YL, SL, OL, HL, YG, SG, OG, HG, Atoms, Rule, True, False}
use Rattle.signs.specs.Signs.{Kind, mark, name, end}
use Rattle.grammar.specs.declared.fault.GrammarFault.TheVariants as faults
use Rattle.grammar.specs.Machine.{is_mark, wrapped, join, Lefts, Bracket, Point, due, unit_read, link_read, conj_read, disj_read, form_read, State, begun, name_due, name_read, rule_due, in_rule, stopped, lefts, no_lefts, choose, closed, ended, after_form, after_disj, after_conj, after_link, after_unit, unit_sign, rule_sign, name_sign, step, is_declared, with_prefixes, open_brackets, name_limit, opens, unit_limit, limit}
use Rattle.grammar.specs.Limits.{rule_begun, names_in, Opening, prefix, bracket, unit_ends, bracket_ends, opened, open_after, limit_at}
use Rattle.grammar.proofs.Sound.{mark_is, AtPoint, Leads}

-- what is open at a point, the newest first
abbrev pub prefixes : List Prefix → List Opening → List Opening
prefixes [] under = under
prefixes (o ∷ os) under = prefix ∷ prefixes os under

abbrev pub under_brackets : List Bracket → List Opening
under_brackets [] = []
under_brackets (b ∷ bs) = bracket ∷ prefixes b.0 (under_brackets bs)

abbrev pub point_open : Point → List Opening
point_open (due os l bs) = prefixes os (under_brackets bs)
point_open (unit_read f l bs) = under_brackets bs
point_open (link_read f c d i bs) = under_brackets bs
point_open (conj_read f d i bs) = under_brackets bs
point_open (disj_read f i bs) = under_brackets bs
point_open (form_read f bs) = under_brackets bs

abbrev pub state_open : State → List Opening
state_open begun = []
state_open (name_due ns) = []
state_open (name_read ns) = []
state_open (rule_due ns) = []
state_open (in_rule ns p) = point_open p
state_open (stopped ns f) = []

abbrev pub state_names : State → List (List ℕ)
state_names begun = []
state_names (name_due ns) = ns
state_names (name_read ns) = ns
state_names (rule_due ns) = ns
state_names (in_rule ns p) = ns
state_names (stopped ns f) = ns

abbrev pub state_ruled : State → Bool
state_ruled begun = false
state_ruled (name_due ns) = false
state_ruled (name_read ns) = false
state_ruled (rule_due ns) = false
state_ruled (in_rule ns p) = true
state_ruled (stopped ns f) = true

-- the state has what the signs s give
pub record Tracks (st : State) (s : List Kind) : Type 0 where
  pub names : names_in s ≡ state_names st
  pub ruled : rule_begun s ≡ state_ruled st
  pub open_now : open_after [] s ≡ state_open st

-- one sign more
or_false : (b : Bool) → (b || false) ≡ b
or_false true = refl
or_false false = refl

or_both : (b x y z : Bool) → x ≡ (y || z) → (b || x) ≡ ((b || y) || z)
or_both true x y z e = refl
or_both false x y z e = e

ruled_next : (s : List Kind) (k : Kind) → rule_begun (s ++ (k ∷ [])) ≡ (rule_begun s || is_mark Rule k)
ruled_next [] k = or_false (is_mark Rule k)
ruled_next (x ∷ s) k = or_both (is_mark Rule x) (rule_begun (s ++ (k ∷ []))) (rule_begun s) (is_mark Rule k) (ruled_next s k)

differ : {b : Bool} → b ≡ true → b ≡ false → ⊥
differ p q = let z : ◌≡◌ {A = ℕ} 0 1 = cc in omega arith

cond_before : (b r : Bool) (xs ys zs : List (List ℕ)) → (b || r) ≡ false → (r ≡ false → xs ≡ ys ++ zs) → cond b [] xs ≡ cond b [] ys ++ zs
cond_before true r xs ys zs e h = absurd (differ refl e)
cond_before false r xs ys zs e h = h e

cond_behind : (b r : Bool) (xs ys : List (List ℕ)) → (b || r) ≡ true → (r ≡ true → xs ≡ ys) → cond b [] xs ≡ cond b [] ys
cond_behind true r xs ys e h = refl
cond_behind false r xs ys e h = h e

names_before : (s : List Kind) (k : Kind) → rule_begun s ≡ false → names_in (s ++ (k ∷ [])) ≡ names_in s ++ names_in (k ∷ [])
names_before [] k e = refl
names_before (name w ∷ s) k e = ap (λ v. w ∷ v) (names_before s k e)
names_before (end ∷ s) k e = names_before s k e
names_before (mark m ∷ s) k e = cond_before (is_mark Rule (mark m)) (rule_begun s) (names_in (s ++ (k ∷ []))) (names_in s) (names_in (k ∷ [])) e (names_before s k)

names_behind : (s : List Kind) (k : Kind) → rule_begun s ≡ true → names_in (s ++ (k ∷ [])) ≡ names_in s
names_behind [] k e = absurd (differ e refl)
names_behind (name w ∷ s) k e = ap (λ v. w ∷ v) (names_behind s k e)
names_behind (end ∷ s) k e = names_behind s k e
names_behind (mark m ∷ s) k e = cond_behind (is_mark Rule (mark m)) (rule_begun s) (names_in (s ++ (k ∷ []))) (names_in s) e (names_behind s k)

open_next : (os : List Opening) (s : List Kind) (k : Kind) → open_after os (s ++ (k ∷ [])) ≡ opened (open_after os s) k
open_next os [] k = refl
open_next os (x ∷ s) k = open_next (opened os x) s k

-- prefixes end with their unit; how many are open
prefixes_end : (os : List Prefix) (bs : List Bracket) → unit_ends (prefixes os (under_brackets bs)) ≡ under_brackets bs
prefixes_end [] [] = refl
prefixes_end [] (b ∷ bs) = refl
prefixes_end (o ∷ os) bs = prefixes_end os bs

count_prefixes : (os : List Prefix) (u : List Opening) → length (prefixes os u) ≡ with_prefixes os (length u)
count_prefixes [] u = refl
count_prefixes (o ∷ os) u = ap suc (count_prefixes os u)

count_brackets : (bs : List Bracket) → length (under_brackets bs) ≡ open_brackets bs
count_brackets [] = refl
count_brackets (b ∷ bs) = ap suc (count_prefixes b.0 (under_brackets bs) ∙ ap (with_prefixes b.0) (count_brackets bs))

count_open : (os : List Prefix) (bs : List Bracket) → length (prefixes os (under_brackets bs)) ≡ with_prefixes os (open_brackets bs)
count_open os bs = count_prefixes os (under_brackets bs) ∙ ap (with_prefixes os) (count_brackets bs)

-- where a sign leads, the state tracks the signs, and the limit was the one that the signs give
abbrev pub Tracked : State → List Kind → Kind → Option State → Type 0
Tracked st s k None = Unit {0}
Tracked st s k (Some next) = Tracks next (s ++ (k ∷ [])) × ((f : ℕ) → limit st k f ≡ limit_at s k f)

module _ (ns : List (List ℕ)) (p : Point) (s : List Kind) (t : Tracks (in_rule ns p) s) where
  ruled_to : (k : Kind) (next : State) → state_names next ≡ ns → state_ruled next ≡ true → opened (point_open p) k ≡ state_open next → Tracks next (s ++ (k ∷ []))
  ruled_to k next n r o = record {
    names = names_behind s k t.ruled ∙ t.names ∙ sym n;
    ruled = ruled_next s k ∙ ap (λ b. b || is_mark Rule k) t.ruled ∙ sym r;
    open_now = open_next [] s k ∙ ap (λ v. opened v k) t.open_now ∙ o;
  }

  name_within : (w : List ℕ) (f : ℕ) → cond (is_declared ns w) None (Some (faults.Undeclared f)) ≡ limit_at s (name w) f
  name_within w f =
      sym (ap (λ b. cond b (cond (is_declared (names_in s) w) None (Some (faults.Undeclared f))) (name_limit (names_in s) w f)) t.ruled
      ∙ ap (λ x. cond (is_declared x w) None (Some (faults.Undeclared f))) t.names)

-- behind a unit
module _ (ns : List (List ℕ)) (g : Form) (l : Lefts) (bs : List Bracket) (s : List Kind) (t : Tracks (in_rule ns (unit_read g l bs)) s) (k : Kind) where
  abbrev P : Option State → Type 0
  P o = Tracked (in_rule ns (unit_read g l bs)) s k o

  -- an infix opens nothing
  infix_to : (m : Mark) (n : Lefts) → k ≡ mark m → opened (under_brackets bs) (mark m) ≡ under_brackets bs → ((f : ℕ) → limit_at s (mark m) f ≡ None) → P (Some (in_rule ns (due [] n bs)))
  infix_to m n is o h = (ruled_to ns (unit_read g l bs) s t k (in_rule ns (due [] n bs)) refl refl (ap (opened (under_brackets bs)) is ∙ o), λ f. sym (ap (λ x. limit_at s x f) is ∙ h f))

  close_to : (f : Form) (cs : List Bracket) → cs ≡ bs → k ≡ mark Close → P (closed ns f cs)
  close_to f [] e is = tt
  close_to f (b ∷ cs) e is =
      (ruled_to ns (unit_read g l bs) s t k _ refl refl (ap (opened (under_brackets bs)) is ∙ ap (λ v. bracket_ends (under_brackets v)) (sym e) ∙ prefixes_end b.0 cs), λ f. sym (ap (λ x. limit_at s x f) is))

  stop_to : (f : Form) (cs : List Bracket) → cs ≡ bs → k ≡ mark Stop → P (ended ns f cs)
  stop_to f [] e is = (ruled_to ns (unit_read g l bs) s t k _ refl refl (ap (opened (under_brackets bs)) is ∙ ap under_brackets (sym e)), λ f. sym (ap (λ x. limit_at s x f) is))
  stop_to f (b ∷ cs) e is = tt

  form_to : (f : Form) → P (after_form ns f bs k)
  form_to f = cond_both (is_mark Close k) _ _ P (λ c. close_to f bs refl (mark_is Close k c)) (λ _. cond_both (is_mark Stop k) _ _ P (λ c. stop_to f bs refl (mark_is Stop k c)) (λ _. tt))

  disj_to : (f : Form) (i : Option Form) → P (after_disj ns f i bs k)
  disj_to f None = cond_both (is_mark Arrow k) _ _ P (λ c. infix_to Arrow _ (mark_is Arrow k c) refl (λ _. refl)) (λ _. form_to f)
  disj_to f (Some i) = form_to (joined pair.Implies i f)

  conj_to : (f : Form) (d i : Option Form) → P (after_conj ns f d i bs k)
  conj_to f d i = cond_both (is_mark Or k) _ _ P (λ c. infix_to Or _ (mark_is Or k c) refl (λ _. refl)) (λ _. disj_to (join pair.Or d f) i)

  link_to : (f : Form) (c d i : Option Form) → P (after_link ns f c d i bs k)
  link_to f c d i = cond_both (is_mark And k) _ _ P (λ e. infix_to And _ (mark_is And k e) refl (λ _. refl)) (λ _. conj_to (join pair.And c f) d i)

  unit_to : (o : Option (Infix × Form)) (c d i : Option Form) → P (after_unit ns g o c d i bs k)
  unit_to (Some o) c d i = link_to (joined o.0 o.1 g) c d i
  unit_to None c d i =
      let Q : Option Infix → Type 0 = λ o. P (choose o (after_link ns g c d i bs k) (λ o. Some (in_rule ns (due [] (lefts (Some (o, g)) c d i) bs)))) in
      cond_both (is_mark SL k) _ _ Q (λ e. infix_to SL _ (mark_is SL k e) refl (λ _. refl)) (λ _.
      cond_both (is_mark SG k) _ _ Q (λ e. infix_to SG _ (mark_is SG k e) refl (λ _. refl)) (λ _. link_to g c d i))

-- where a unit is due
module _ (ns : List (List ℕ)) (os : List Prefix) (l : Lefts) (bs : List Bracket) (s : List Kind) (t : Tracks (in_rule ns (due os l bs)) s) where
  opens_within : (m : Mark) (f : ℕ) → unit_limit ns os bs (mark m) f ≡ limit_at s (mark m) f
  opens_within m f = ap (λ n. cond (opens (mark m)) (cond (ltb n 32) None (Some (faults.TooDeep f))) None) (sym (ap length t.open_now ∙ count_open os bs))

  mark_to : (m : Mark) (next : State) (n : Mark) → state_names next ≡ ns → state_ruled next ≡ true → mark m ≡ mark n → opened (prefixes os (under_brackets bs)) (mark n) ≡ state_open next → Tracked (in_rule ns (due os l bs)) s (mark m) (Some next)
  mark_to m next n a b is o = (ruled_to ns (due os l bs) s t (mark m) next a b (ap (opened (prefixes os (under_brackets bs))) is ∙ o), opens_within m)

  due_mark : (m : Mark) → Tracked (in_rule ns (due os l bs)) s (mark m) (unit_sign ns os l bs (mark m))
  due_mark m =
      let k : Kind = mark m in
      let P : Option State → Type 0 = Tracked (in_rule ns (due os l bs)) s k in
      let rest : Option State = cond (is_mark Open k) (Some (in_rule ns (due [] no_lefts ((os, l) ∷ bs)))) (cond (is_mark True k) (Some (in_rule ns (unit_read (wrapped os yes) l bs))) (cond (is_mark False k) (Some (in_rule ns (unit_read (wrapped os no) l bs))) None)) in
      let Q : Option Prefix → Type 0 = λ o. P (choose o rest (λ o. Some (in_rule ns (due (o ∷ os) l bs)))) in
      cond_both (is_mark Not k) _ _ Q (λ e. mark_to m _ Not refl refl (mark_is Not k e) refl) (λ _.
      cond_both (is_mark YL k) _ _ Q (λ e. mark_to m _ YL refl refl (mark_is YL k e) refl) (λ _.
      cond_both (is_mark OL k) _ _ Q (λ e. mark_to m _ OL refl refl (mark_is OL k e) refl) (λ _.
      cond_both (is_mark HL k) _ _ Q (λ e. mark_to m _ HL refl refl (mark_is HL k e) refl) (λ _.
      cond_both (is_mark YG k) _ _ Q (λ e. mark_to m _ YG refl refl (mark_is YG k e) refl) (λ _.
      cond_both (is_mark OG k) _ _ Q (λ e. mark_to m _ OG refl refl (mark_is OG k e) refl) (λ _.
      cond_both (is_mark HG k) _ _ Q (λ e. mark_to m _ HG refl refl (mark_is HG k e) refl) (λ _.
      cond_both (is_mark Open k) _ _ P (λ e. mark_to m _ Open refl refl (mark_is Open k e) refl) (λ _.
      cond_both (is_mark True k) _ _ P (λ e. mark_to m _ True refl refl (mark_is True k e) (prefixes_end os bs)) (λ _.
      cond_both (is_mark False k) _ _ P (λ e. mark_to m _ False refl refl (mark_is False k e) (prefixes_end os bs)) (λ _. tt))))))))))

  due_to : (k : Kind) → Tracked (in_rule ns (due os l bs)) s k (unit_sign ns os l bs k)
  due_to (name w) = (ruled_to ns (due os l bs) s t (name w) _ refl refl (prefixes_end os bs), name_within ns (due os l bs) s t w)
  due_to (mark m) = due_mark m
  due_to end = tt

-- before the rule
module _ (st : State) (s : List Kind) (t : Tracks st s) (before : state_ruled st ≡ false) (none : state_open st ≡ []) where
  declared_to : (k : Kind) (next : State) → state_names next ≡ state_names st ++ names_in (k ∷ []) → state_ruled next ≡ is_mark Rule k → opened [] k ≡ state_open next → Tracks next (s ++ (k ∷ []))
  declared_to k next n r o = record {
    names = names_before s k (t.ruled ∙ before) ∙ ap (λ v. v ++ names_in (k ∷ [])) t.names ∙ sym n;
    ruled = ruled_next s k ∙ ap (λ b. b || is_mark Rule k) (t.ruled ∙ before) ∙ sym r;
    open_now = open_next [] s k ∙ ap (λ v. opened v k) (t.open_now ∙ none) ∙ o;
  }

  -- a mark between the names
  between : (m : Mark) (k : Kind) (next : State) → k ≡ mark m → state_names next ≡ state_names st → names_in (mark m ∷ []) ≡ [] → state_ruled next ≡ is_mark Rule (mark m) → opened [] (mark m) ≡ state_open next → Tracks next (s ++ (k ∷ []))
  between m k next is n a r o =
      declared_to k next (n ∙ sym (append-nil (state_names st)) ∙ ap (λ v. state_names st ++ v) (sym a) ∙ ap (λ x. state_names st ++ names_in (x ∷ [])) (sym is)) (r ∙ ap (is_mark Rule) (sym is)) (ap (opened []) is ∙ o)

  name_declared : (w : List ℕ) (f : ℕ) → name_limit (state_names st) w f ≡ limit_at s (name w) f
  name_declared w f =
      sym (ap (λ b. cond b (cond (is_declared (names_in s) w) None (Some (faults.Undeclared f))) (name_limit (names_in s) w f)) (t.ruled ∙ before)
      ∙ ap (λ x. name_limit x w f) t.names)

quiet : (s : List Kind) (k : Kind) (m : Mark) → k ≡ mark m → ((f : ℕ) → limit_at s (mark m) f ≡ None) → (f : ℕ) → None ≡ limit_at s k f
quiet s k m is h f = sym (ap (λ x. limit_at s x f) is ∙ h f)

names_to : (ns : List (List ℕ)) (s : List Kind) (k : Kind) → Tracks (name_due ns) s → Tracked (name_due ns) s k (name_sign ns k)
names_to ns s (mark m) t = tt
names_to ns s end t = tt
names_to ns s (name w) t = (declared_to (name_due ns) s t refl refl (name w) _ refl refl refl, name_declared (name_due ns) s t refl refl w)

rule_to : (ns : List (List ℕ)) (p : Point) (s r : List Kind) (k : Kind) → AtPoint ns p r → Tracks (in_rule ns p) s → Tracked (in_rule ns p) s k (rule_sign ns p k)
rule_to ns (due os l bs) s r k at t = due_to ns os l bs s t k
rule_to ns (unit_read f l bs) s r k at t = unit_to ns f l bs s t k l.since l.conj l.disj l.implied
rule_to ns (link_read f c d i bs) s r k at t = absurd at
rule_to ns (conj_read f d i bs) s r k at t = absurd at
rule_to ns (disj_read f i bs) s r k at t = absurd at
rule_to ns (form_read f bs) s r k at t = absurd at

pub tracked : (st : State) (s : List Kind) (k : Kind) → Leads st s → Tracks st s → Tracked st s k (step st k)
tracked begun s k l t =
    cond_both (is_mark Atoms k) _ _ (Tracked begun s k) (λ c. (between begun s t refl refl Atoms k _ (mark_is Atoms k c) refl refl refl refl, quiet s k Atoms (mark_is Atoms k c) (λ _. refl))) (λ _. tt)
tracked (name_due ns) s k l t = names_to ns s k t
tracked (name_read ns) s k l t =
    cond_both (is_mark Comma k) _ _ (Tracked (name_read ns) s k) (λ c. (between (name_read ns) s t refl refl Comma k _ (mark_is Comma k c) refl refl refl refl, quiet s k Comma (mark_is Comma k c) (λ _. refl))) (λ _.
    cond_both (is_mark Semicolon k) _ _ (Tracked (name_read ns) s k) (λ c. (between (name_read ns) s t refl refl Semicolon k _ (mark_is Semicolon k c) refl refl refl refl, quiet s k Semicolon (mark_is Semicolon k c) (λ _. refl))) (λ _. tt))
tracked (rule_due ns) s k l t =
    cond_both (is_mark Rule k) _ _ (Tracked (rule_due ns) s k) (λ c. (between (rule_due ns) s t refl refl Rule k _ (mark_is Rule k c) refl refl refl refl, quiet s k Rule (mark_is Rule k c) (λ _. refl))) (λ _. tt)
tracked (in_rule ns p) s k l t = rule_to ns p s l.1 k l.3 t
tracked (stopped ns f) s k l t = tt

pub tracks_none : Tracks begun []
tracks_none = record { names = refl; ruled = refl; open_now = refl }
