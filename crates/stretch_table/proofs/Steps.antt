-- What each write to entries leaves them. Assumes nothing.
use Rattle.std.proofs.Common.{◌≡◌, ℕ, ◌+◌, ◌-◌, ◌*◌, ◌^◌, ◌<◌, ◌≤◌, true, List, [], ◌∷◌, ◌++◌, length, take, drop, replicate, vec_items, sym, ap, ◌∙◌, subst, arith, length-append}
use lib.Seq.{paste}
use Rattle.std.specs.Vec.{with_items}
use Rattle.std.specs.List.{between}
use Rattle.std.proofs.ByRecursion.{All-append}
use Rattle.std.proofs.lemmas.List.{with_items_is, length_push, length-take-le}
use Rattle.std.proofs.lemmas.List.Edits.{split_between, length-between}
use Rattle.stores.specs.Bytes.{are_bytes}
use Rattle.stores.proofs.Bytes.{Bytes, bytes_from, bytes_part, bytes_paste, bytes_zeros}
use Rattle.stretch_table.specs.Stretches.{Stretch, stretch}
use Rattle.stretch_table.specs.Image.{four, filled}
use Rattle.stretch_table.specs.Entries.{stretches_in}
use Rattle.stretch_table.specs.Held.{held, HasRoom}
use Rattle.stretch_table.specs.declared.entries.Entries.{Entries}
use Rattle.stretch_table.proofs.Edits.{sets_numbers, sets_count, sets_record, doubles, removes, grows}
use Rattle.stretch_table.proofs.Held.{many, lists, lists_as, Written, written, Turned, turned}
use Rattle.stretch_table.proofs.Pastes.{paste_take}

number_bytes : (n : ℕ) (bs : List ℕ) → Bytes bs → Bytes (four n ++ bs)
number_bytes n bs h = (omega arith, (omega arith, (omega arith, (omega arith, h))))

module _ (es : Entries) (n : List ℕ) where
  abbrev w : ℕ
  w = es.bounds.width

  abbrev m : List ℕ
  m = vec_items es.bytes

  abbrev place_of : ℕ → ℕ
  place_of i = i * (w + 8)

  pasted : (at k : ℕ) (part : List ℕ) → Bytes part → n ≡ paste m at part k → Bytes n
  pasted at k part h is = subst Bytes (sym is) (bytes_paste m at part k (bytes_from m es.values) h)

  -- one stretch in place of another
  one : (A B : List Stretch) (e s : Stretch) → held es ≡ A ++ (e ∷ B) → length (A ++ (s ∷ B)) ≡ es.used
  one A B e s is = length-append A (s ∷ B) ∙ sym (length-append A (e ∷ B)) ∙ ap length (sym is) ∙ many es

  module _ (i : ℕ) (A B : List Stretch) (e : Stretch) (is : held es ≡ A ++ (e ∷ B)) (place : length A ≡ i) where
    at : place_of i ≡ place_of (length A)
    at = ap place_of (sym place)

    runs_set : (p : ℕ) → p ≡ place_of i → (first count : ℕ) → first < 2 ^ 32 → count < 2 ^ 32 → n ≡ paste m p (four first ++ four count) 8
        → Written w es.used n (A ++ (stretch first count e.kept ∷ B))
    runs_set p there first count small few put =
        let s = stretch first count e.kept in
        written w es.used n (A ++ (s ∷ B)) (pasted p 8 (four first ++ four count) (number_bytes first (four count) (number_bytes count [] tt)) put)
        (sets_numbers A B e (lists_as es (A ++ (e ∷ B)) is) p (there ∙ at) first count n small few put)
        (one A B e s is)

    count_set : (p : ℕ) → p ≡ place_of i → (count : ℕ) → count < 2 ^ 32 → n ≡ paste m (p + 4) (four count) 4 → Written w es.used n (A ++ (stretch e.first count e.kept ∷ B))
    count_set p there count few put =
        let s = stretch e.first count e.kept in
        written w es.used n (A ++ (s ∷ B)) (pasted (p + 4) 4 (four count) (number_bytes count [] tt) put)
        (sets_count A B e (lists_as es (A ++ (e ∷ B)) is) p (there ∙ at) count n few put)
        (one A B e s is)

    record_set : (p : ℕ) → p ≡ place_of i → (rec : List ℕ) → Bytes rec → length rec ≡ w → n ≡ paste m (p + 8) rec (length rec) → Written w es.used n (A ++ (stretch e.first e.count rec ∷ B))
    record_set p there rec bytes long put =
        let s = stretch e.first e.count rec in
        written w es.used n (A ++ (s ∷ B)) (pasted (p + 8) (length rec) rec bytes put)
        (sets_record A B e (lists_as es (A ++ (e ∷ B)) is) p (there ∙ at) rec n long (put ∙ ap (paste m (p + 8) rec) long))
        (one A B e s is)

    doubled : HasRoom es → n ≡ paste m (place_of i + (w + 8)) (drop (place_of i) m) (place_of es.used - place_of i) → Written w (es.used + 1) n (A ++ (e ∷ e ∷ B))
    doubled room put =
        let k = place_of es.used - place_of i in
        let all : length (A ++ (e ∷ B)) ≡ es.used = ap length (sym is) ∙ many es in
        let moved = put ∙ paste_take m (drop (place_of i) m) (place_of i + (w + 8)) k in
        written w (es.used + 1) n (A ++ (e ∷ e ∷ B)) (pasted (place_of i + (w + 8)) k (take k (drop (place_of i) m)) (bytes_part k (place_of i) m (bytes_from m es.values)) moved)
        (doubles A B e (lists_as es (A ++ (e ∷ B)) is) (place_of i) at (place_of es.used) n (ap place_of (sym all)) room moved)
        (length-append A (e ∷ e ∷ B) ∙ omega (arith, all, length-append A (e ∷ B)))

  module _ (from to : ℕ) where
    abbrev part : List ℕ
    part = take (place_of es.used - place_of to) (drop (place_of to) m) ++ replicate (place_of to - place_of from) 0

    removed : (A O B : List Stretch) → held es ≡ A ++ (O ++ B) → length A ≡ from → length A + length O ≡ to
        → n ≡ paste m (place_of from) part (place_of es.used - place_of from) → Written w (es.used - (to - from)) n (A ++ B)
    removed A O B is place end put =
        let all : length (A ++ (O ++ B)) ≡ es.used = ap length (sym is) ∙ many es in
        let bytes = All-append (λ b. b < 256) _ _ (bytes_part (place_of es.used - place_of to) (place_of to) m (bytes_from m es.values)) (bytes_zeros (place_of to - place_of from)) in
        written w (es.used - (to - from)) n (A ++ B) (pasted (place_of from) (place_of es.used - place_of from) part bytes put)
        (removes A O B (lists_as es (A ++ (O ++ B)) is) (place_of from) (place_of to) (place_of es.used) n (ap place_of (sym place)) (ap place_of (sym end)) (ap place_of (sym all)) put)
        (length-append A B ∙ omega (arith, all, length-append A (O ++ B), length-append O B))

    removed_there : from ≤ to → to ≤ es.used → n ≡ paste m (place_of from) part (place_of es.used - place_of from)
        → Written w (es.used - (to - from)) n (take from (held es) ++ drop to (held es))
    removed_there le fits put =
        let all = many es in
        let short = length-take-le from (held es) (omega arith) in
        removed (take from (held es)) (between from to (held es)) (drop to (held es)) (split_between (held es) from to le) short
        (omega (arith, short, length-between (held es) from to (omega arith))) put

pub grown : (es : Entries) → HasRoom es → Written es.bounds.width (es.used + 1) (vec_items es.bytes) (held es ++ (stretch 0 0 (replicate es.bounds.width 0) ∷ []))
grown es room =
    let all = many es in
    let there : length (held es) * (es.bounds.width + 8) ≡ es.used * (es.bounds.width + 8) = ap (λ n. n * (es.bounds.width + 8)) all in
    written es.bounds.width (es.used + 1) (vec_items es.bytes) _ (bytes_from (vec_items es.bytes) es.values)
    (grows (held es) (lists es) (omega arith))
    (length_push (held es) (stretch 0 0 (replicate es.bounds.width 0)) ∙ omega arith)

pub double_turns : (es : Entries) (n : List ℕ) (i : ℕ) → i < es.used → HasRoom es
    → n ≡ paste (vec_items es.bytes) (i * (es.bounds.width + 8) + (es.bounds.width + 8)) (drop (i * (es.bounds.width + 8)) (vec_items es.bytes)) (es.used * (es.bounds.width + 8) - i * (es.bounds.width + 8))
    → Turned es (es.used + 1) n i (λ e. e ∷ e ∷ [])
double_turns es n i lt room put = turned es (es.used + 1) n i (λ e. e ∷ e ∷ []) lt (λ A B e is place. doubled es n i A B e is place room put)

-- memory without the stretches from place `from` to `to`
pub record Removed (es : Entries) (from to : ℕ) (n : List ℕ) : Type 0 where
  pub values : are_bytes n ≡ true
  pub fits : (es.used - (to - from)) * (es.bounds.width + 8) ≤ length n
  pub rest : n ≡ filled (stretches_in es.bounds.width (es.used - (to - from)) n) (length n)
  pub left : (A O B : List Stretch) → held es ≡ A ++ (O ++ B) → length A ≡ from → length A + length O ≡ to → stretches_in es.bounds.width (es.used - (to - from)) n ≡ A ++ B

-- the writes through a slice d of the bytes, which leaves ws there
module _ (es : Entries) (d ws : List ℕ) (of : d ≡ vec_items es.bytes) (long : length ws ≡ length (vec_items es.bytes)) where
  abbrev n : List ℕ
  n = vec_items (with_items es.bytes ws)

  through : (f : List ℕ → List ℕ) → ws ≡ f d → n ≡ f (vec_items es.bytes)
  through f is = with_items_is es.bytes ws (long ∙ sym es.bytes.ok.0) ∙ is ∙ ap f of

  pub remove_leaves : (from to : ℕ) → from ≤ to → to ≤ es.used
      → ws ≡ paste d (place_of es n from) (take (place_of es n es.used - place_of es n to) (drop (place_of es n to) d) ++ replicate (place_of es n to - place_of es n from) 0) (place_of es n es.used - place_of es n from)
      → Removed es from to n
  remove_leaves from to le fits put =
      let at = place_of es n in
      let there = through (λ l. paste l (at from) (take (at es.used - at to) (drop (at to) l) ++ replicate (at to - at from) 0) (at es.used - at from)) put in
      let k = removed_there es n from to le fits there in
      record { values = k.values; fits = k.fits; rest = k.rest; left = λ A O B is place end. (removed es n from to A O B is place end there).held }

  module _ (i p : ℕ) (lt : i < es.used) (at : p ≡ i * (es.bounds.width + 8)) where
    pub runs_turn : (first count : ℕ) → first < 2 ^ 32 → count < 2 ^ 32 → ws ≡ paste d p (four first ++ four count) 8 → Turned es es.used n i (λ e. stretch first count e.kept ∷ [])
    runs_turn first count small few put =
        let there = through (λ l. paste l p (four first ++ four count) 8) put in
        turned es es.used n i (λ e. stretch first count e.kept ∷ []) lt (λ A B e is place. runs_set es n i A B e is place p at first count small few there)

    pub count_turns : (count : ℕ) → count < 2 ^ 32 → ws ≡ paste d (p + 4) (four count) 4 → Turned es es.used n i (λ e. stretch e.first count e.kept ∷ [])
    count_turns count few put =
        let there = through (λ l. paste l (p + 4) (four count) 4) put in
        turned es es.used n i (λ e. stretch e.first count e.kept ∷ []) lt (λ A B e is place. count_set es n i A B e is place p at count few there)

    pub record_turns : (rec : List ℕ) → Bytes rec → length rec ≡ es.bounds.width → ws ≡ paste d (p + 8) rec (length rec) → Turned es es.used n i (λ e. stretch e.first e.count rec ∷ [])
    record_turns rec bytes wide put =
        let there = through (λ l. paste l (p + 8) rec (length rec)) put in
        turned es es.used n i (λ e. stretch e.first e.count rec ∷ []) lt (λ A B e is place. record_set es n i A B e is place p at rec bytes wide there)
