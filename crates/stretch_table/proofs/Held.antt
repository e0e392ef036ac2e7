-- What entries hold, as a list; what a write to their memory leaves them. Assumes nothing.
use Rattle.std.proofs.Common.{◌≡◌, ℕ, zero, suc, ◌+◌, ◌*◌, ◌^◌, ◌<◌, ◌≤◌, true, List, [], ◌∷◌, ◌++◌, length, get_or, take, drop, vec_items, sym, ap, ◌∙◌, subst, arith, length-append, length-drop}
use lib.Seq.{split_at}
use Rattle.std.specs.List.{range_with_len}
use Rattle.std.proofs.ByRecursion.{All-map}
use Rattle.std.proofs.lemmas.List.{get_or_at, length-take, length-take-le}
use Rattle.std.proofs.lemmas.List.FromFn.{length-map-range_with_len, get_or-map-range_with_len}
use Rattle.stores.specs.Bytes.{are_bytes}
use Rattle.stores.specs.declared.bounds.Bounds.{Bounds}
use Rattle.stores.proofs.Bytes.{Bytes, bytes_from, from_bytes}
use Rattle.stretch_table.specs.Stretches.{Stretch}
use Rattle.stretch_table.specs.Image.{filled}
use Rattle.stretch_table.specs.Entries.{number_at, stretch_at, stretches_in, Sized, Holds}
use Rattle.stretch_table.specs.Held.{held, entry_at, SameRoom}
use Rattle.stretch_table.specs.Records.{all_counting, within}
use Rattle.stretch_table.specs.declared.entries.Entries.{Entries}
use Rattle.stretch_table.proofs.Edits.{reads_all}

byte_at : (m : List ℕ) → Bytes m → (j : ℕ) → get_or m j 0 < 256
byte_at [] h j = omega arith
byte_at (b ∷ m) h zero = h.0
byte_at (b ∷ m) h (suc j) = byte_at m h.1 j

small : (m : List ℕ) → Bytes m → (p : ℕ) → number_at m p < 2 ^ 32
small m h p = omega (arith, byte_at m h p, byte_at m h (p + 1), byte_at m h (p + 2), byte_at m h (p + 3))

module _ (w used : ℕ) (m : List ℕ) where
  pub counted : length (stretches_in w used m) ≡ used
  counted = length-map-range_with_len (stretch_at w m) 0 used

  pub read_at : (i : ℕ) (A B : List Stretch) (e : Stretch) → stretches_in w used m ≡ A ++ (e ∷ B) → length A ≡ i → stretch_at w m i ≡ e
  read_at i A B e is place =
      sym (get_or-map-range_with_len (stretch_at w m) 0 used i i e (omega (arith, counted, ap length is, length-append A (e ∷ B))) (omega arith))
      ∙ ap (λ l. get_or l i e) is ∙ get_or_at A e B e i place

  -- the stretches lie around the one at place i
  pub record Around (i : ℕ) : Type 0 where
    pub front : List Stretch
    pub back : List Stretch
    pub is : stretches_in w used m ≡ front ++ (stretch_at w m i ∷ back)
    pub place : length front ≡ i

  pub around_in : (i : ℕ) → i < used → Around i
  around_in i lt =
      let e = stretch_at w m i in
      let ss = stretches_in w used m in
      let here : get_or ss i e ≡ e = get_or-map-range_with_len (stretch_at w m) 0 used i i e lt (omega arith) in
      record {
        front = take i ss;
        back = drop (suc i) ss;
        is = split_at ss i e (omega (arith, counted)) ∙ ap (λ x. take i ss ++ (x ∷ drop (suc i) ss)) here;
        place = length-take-le i ss (omega (arith, counted));
      }

module _ (es : Entries) where
  abbrev w : ℕ
  w = es.bounds.width

  abbrev m : List ℕ
  m = vec_items es.bytes

  pub many : length (held es) ≡ es.used
  many = length-map-range_with_len (entry_at es) 0 es.used

  sized : (i : ℕ) → i < 0 + es.used → Sized w (entry_at es i)
  sized i lt =
      let bytes = bytes_from m es.values in
      let at = i * (w + 8) in
      let room = within i es.used (w + 8) (length m) (omega arith) es.fits in
      record { first = small m bytes at; count = small m bytes (at + 4); wide = simp (length-take, length-drop) (omega arith) }

  -- the memory holds them
  pub lists : Holds w (held es) m
  lists =
      record {
        sized = All-map (Sized w) (entry_at es) (range_with_len 0 es.used) (all_counting _ 0 es.used sized);
        fits = subst (λ n. n * (w + 8) ≤ length m) (sym many) es.fits;
        is = es.rest;
      }

  pub lists_as : (ss : List Stretch) → held es ≡ ss → Holds w ss m
  lists_as ss is = subst (λ l. Holds w l m) is lists

  pub entry_is : (i : ℕ) (A B : List Stretch) (e : Stretch) → held es ≡ A ++ (e ∷ B) → length A ≡ i → entry_at es i ≡ e
  entry_is i A B e is place = read_at w es.used m i A B e is place

  pub around : (i : ℕ) → i < es.used → Around w es.used m i
  around i lt = around_in w es.used m i lt

-- memory that is that of entries, and what they hold
pub record Written (w used : ℕ) (m : List ℕ) (ss : List Stretch) : Type 0 where
  pub values : are_bytes m ≡ true
  pub fits : used * (w + 8) ≤ length m
  pub rest : m ≡ filled (stretches_in w used m) (length m)
  pub held : stretches_in w used m ≡ ss

-- memory that holds stretches is read as them
pub read_back : (w used : ℕ) (ss : List Stretch) (m : List ℕ) → Holds w ss m → length ss ≡ used → stretches_in w used m ≡ ss
read_back w used ss m h all = ap (λ n. stretches_in w n m) (sym all) ∙ reads_all w ss m h

pub written : (w used : ℕ) (m : List ℕ) (ss : List Stretch) → Bytes m → Holds w ss m → length ss ≡ used → Written w used m ss
written w used m ss bytes h all =
    let read = read_back w used ss m h all in
    record {
      values = from_bytes m bytes;
      fits = subst (λ n. n * (w + 8) ≤ length m) all h.fits;
      rest = h.is ∙ ap (λ l. filled l (length m)) (sym read);
      held = read;
    }

-- memory in which others stand for the stretch at place i, as f makes them of it
pub record Turned (es : Entries) (used : ℕ) (m : List ℕ) (i : ℕ) (f : Stretch → List Stretch) : Type 0 where
  pub values : are_bytes m ≡ true
  pub fits : used * (es.bounds.width + 8) ≤ length m
  pub rest : m ≡ filled (stretches_in es.bounds.width used m) (length m)
  pub turns : (A B : List Stretch) (e : Stretch) → held es ≡ A ++ (e ∷ B) → length A ≡ i → stretches_in es.bounds.width used m ≡ A ++ (f e ++ B)

pub turned : (es : Entries) (used : ℕ) (m : List ℕ) (i : ℕ) (f : Stretch → List Stretch) → i < es.used
    → ((A B : List Stretch) (e : Stretch) → held es ≡ A ++ (e ∷ B) → length A ≡ i → Written es.bounds.width used m (A ++ (f e ++ B))) → Turned es used m i f
turned es used m i f lt each =
    let a = around es i lt in
    let k = each a.front a.back (entry_at es i) a.is a.place in
    record { values = k.values; fits = k.fits; rest = k.rest; turns = λ A B e is place. (each A B e is place).held }

-- entries whose numbers and size have stayed hold stretches as those before would
pub holds_as : (old new : Entries) (ss : List Stretch) → SameRoom old new → held new ≡ ss → Holds old.bounds.width ss (vec_items new.bytes)
holds_as old new ss same is = subst (λ (b : Bounds). Holds b.width ss (vec_items new.bytes)) same.0 (lists_as new ss is)

pub same_then : (a b c : Entries) → SameRoom a b → SameRoom b c → SameRoom a c
same_then a b c ab bc = (bc.0 ∙ ab.0, bc.1 ∙ ab.1)
