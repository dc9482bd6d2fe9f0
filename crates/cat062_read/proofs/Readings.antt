-- What the computing definitions of a body's records read is spelled, and what is spelled is read.
use Rattle.std.proofs.Common.{◌≡◌, ℕ, zero, suc, ◌+◌, ◌-◌, ◌≤◌, List, [], ◌∷◌, ◌++◌, length, take, drop, Result, Ok, Err, None, Some, refl, ap, sym, ◌∙◌, subst, arith, append_assoc, length-append, length-take-le, length-drop}
use Rattle.std.specs.Prelude.{map, IfOk}
use Rattle.std.proofs.Math.Seq.{drop-append_seam}
use Rattle.std.proofs.lemmas.List.{take-append-drop}
use Rattle.asterix_fields.specs.declared.places.Span.{Span}
use Rattle.asterix_fields.specs.declared.fault.ItemFault.{ItemFault}
use Rattle.asterix_fields.specs.Spelling.{Spells, joined, texts_at, IsWalk, IsChain}
use Rattle.asterix_fields.specs.Faults.{◌>>=◌, record_at, fault, fault_of}
use Rattle.asterix_fields.specs.Reading.{AllReadAsSpelled}
use Rattle.cat062_read.specs.declared.table.TheConstants.{CAT062, SUBS062}
use Rattle.cat062_read.specs.declared.record.Raw062.{Raw062}
use Rattle.cat062_read.specs.Contents.{contents}
use Rattle.cat062_read.specs.Records.{Spells062, fault062, IsFirstFault062, BeginsNone, AllSpelled, IsFront, IsRead, IsRefusal, ReadsSpelled, reading, and_then, read_up_to, records, left_of, refused_at, refusal}
use Rattle.cat062_read.proofs.Tables.{tables_good}

-- ---- what needs no law

fault_of_err : (found : Result (List Span × ℕ) ItemFault) (f : ItemFault) (g : List Span × ℕ → Raw062 × ℕ) → (found >>= λ s. Ok (g s)) ≡ Err f → found ≡ Err f
fault_of_err (Ok s) f g e = absurd (cc)
fault_of_err (Err x) f g e = cc

pub record_fault : (bytes : List ℕ) (f : ItemFault) → reading bytes ≡ Err f → record_at CAT062.0 SUBS062.0 bytes ≡ Err f
unfolding reading
record_fault bytes f e = fault_of_err (record_at CAT062.0 SUBS062.0 bytes) f (λ found. (contents (texts_at bytes found.0), found.1)) e

pub fault_read : (bytes : List ℕ) (f : ItemFault) → reading bytes ≡ Err f → fault062 bytes ≡ Some f
unfolding fault062
fault_read bytes f e = ap fault_of (record_fault bytes f e)

read_found : (found : Result (List Span × ℕ) ItemFault) (r : Raw062 × ℕ) (g : List Span × ℕ → Raw062 × ℕ) → (found >>= λ s. Ok (g s)) ≡ Ok r → (s : List Span × ℕ) × (found ≡ Ok s) × (g s ≡ r)
read_found (Ok s) r g e = (s, refl, cc)
read_found (Err x) r g e = absurd (cc)

pub record_found : (bytes : List ℕ) (r : Raw062 × ℕ) → reading bytes ≡ Ok r → (s : List Span × ℕ) × (record_at CAT062.0 SUBS062.0 bytes ≡ Ok s) × ((contents (texts_at bytes s.0), s.1) ≡ r)
unfolding reading
record_found bytes r e = read_found (record_at CAT062.0 SUBS062.0 bytes) r (λ found. (contents (texts_at bytes found.0), found.1)) e

pub none_refused : (bytes : List ℕ) (r : Raw062 × ℕ) → reading bytes ≡ Ok r → fault062 bytes ≡ None
unfolding fault062
none_refused bytes r e = ap fault_of (record_found bytes r e).1

fault_of_some : (found : Result (List Span × ℕ) ItemFault) (f : ItemFault) → Some f ≡ fault_of found → found ≡ Err f
fault_of_some (Ok s) f e = absurd (cc)
fault_of_some (Err x) f e = cc

pub walk_fails : (bytes : List ℕ) (f : ItemFault) → Some f ≡ fault CAT062.0 SUBS062.0 bytes → reading bytes ≡ Err f
unfolding reading
walk_fails bytes f e =
    ap (λ (found : Result (List Span × ℕ) ItemFault). found >>= λ s. Ok (contents (texts_at bytes s.0), s.1)) (fault_of_some (record_at CAT062.0 SUBS062.0 bytes) f e)

pub spells_of : (text : List ℕ) (items : List (List ℕ)) → Spells CAT062.0 SUBS062.0 text items → Spells062 text items
unfolding Spells062
spells_of text items spelled = spelled

chain_some : (octets : List ℕ) → IsChain octets → 1 ≤ length octets
chain_some [] h = absurd h
chain_some (octet ∷ rest) h = omega arith

pub text_some : (text : List ℕ) (items : List (List ℕ)) → Spells062 text items → 1 ≤ length text
unfolding Spells062
text_some text items spelled =
    let long : length text ≡ length spelled.presence + length (joined items) = ap length spelled.whole ∙ length-append spelled.presence (joined items) in
    let some : 1 ≤ length spelled.presence = chain_some spelled.presence spelled.octets.0 in
    omega arith

pub nothing_read : (records [] ≡ []) × (left_of [] ≡ [])
unfolding records left_of read_up_to
nothing_read = (refl, refl)

pub record Laid (body : List ℕ) : Type 0 where
  pub texts : List (List ℕ)
  pub items : List (List (List ℕ))
  pub rest : List ℕ
  pub read : IsRead body texts items rest

empty_stops : (body : List ℕ) → length body ≤ 0 → BeginsNone body
empty_stops body h = λ text more items spelled same.
    let some = text_some text items spelled in
    let long : length body ≡ length text + length more = ap length same ∙ length-append text more in
    absurd (omega arith)

-- ---- where records are read as they are spelled

module _ (law : AllReadAsSpelled) where
  pub what_is_read : (bytes : List ℕ) (r : Raw062 × ℕ) → reading bytes ≡ Ok r → IsFront bytes r.0 r.1
  unfolding Spells062
  what_is_read bytes r e =
      let s = record_found bytes r e in
      let w = (law CAT062.0 SUBS062.0 tables_good).found bytes s.0 s.1 in
      subst (λ (q : Raw062 × ℕ). IsFront bytes q.0 q.1) s.2 (record { items = texts_at bytes s.0.0; spelled = w.spelled; read = refl; inside = w.inside })

  pub reading_again : (text more : List ℕ) (items : List (List ℕ)) → Spells062 text items → reading (text ++ more) ≡ Ok (contents items, length text)
  unfolding reading Spells062
  reading_again text more items spelled =
      let s = (law CAT062.0 SUBS062.0 tables_good).again text more items spelled in
      ap (λ (found : Result (List Span × ℕ) ItemFault). found >>= λ f. Ok (contents (texts_at (text ++ more) f.0), f.1)) s.1
      ∙ ap (λ (texts : List (List ℕ)). let r : Result (Raw062 × ℕ) ItemFault = Ok (contents texts, length text) in r) s.2

  pub none_read : (bytes : List ℕ) (f : ItemFault) → reading bytes ≡ Err f → BeginsNone bytes
  none_read bytes f e = λ text more items spelled same.
      let both : (let r : Result (Raw062 × ℕ) ItemFault = Err f in r ≡ Ok (contents items, length text)) = sym e ∙ ap reading same ∙ reading_again text more items spelled in
      absurd (cc)

  pub first_read : (bytes : List ℕ) (f : ItemFault) → reading bytes ≡ Err f → IsFirstFault062 bytes f
  unfolding IsFirstFault062
  first_read bytes f e = (law CAT062.0 SUBS062.0 tables_good).refused bytes f (record_fault bytes f e)

  pub size_some : (bytes : List ℕ) (r : Raw062 × ℕ) → reading bytes ≡ Ok r → 1 ≤ r.1
  size_some bytes r e =
      let front = what_is_read bytes r e in
      let some : 1 ≤ length (take r.1 bytes) = text_some (take r.1 bytes) front.items front.spelled in
      let size : length (take r.1 bytes) ≡ r.1 = length-take-le r.1 bytes front.inside in
      omega arith

  -- ---- how many records are enough

  none_left : (more : ℕ) (bytes : List ℕ) (read : Result (Raw062 × ℕ) ItemFault) → reading bytes ≡ read → length bytes ≤ 0 → and_then (read_up_to more) bytes read ≡ ([], bytes)
  none_left more bytes (Err f) e h = refl
  none_left more bytes (Ok r) e h = absurd (let some = size_some bytes r e in let front = what_is_read bytes r e in let inside : r.1 ≤ length bytes = front.inside in omega arith)

  same_step : (m n : ℕ) (bytes : List ℕ) (read : Result (Raw062 × ℕ) ItemFault) → reading bytes ≡ read → length bytes ≤ suc m → length bytes ≤ suc n
      → ((rest : List ℕ) → length rest ≤ m → length rest ≤ n → read_up_to m rest ≡ read_up_to n rest)
      → and_then (read_up_to m) bytes read ≡ and_then (read_up_to n) bytes read
  same_step m n bytes (Err f) e h k again = refl
  same_step m n bytes (Ok r) e h k again =
      let some : 1 ≤ r.1 = size_some bytes r e in
      let left : length (drop r.1 bytes) ≡ length bytes - r.1 = length-drop r.1 bytes in
      ap (λ (others : List Raw062 × List ℕ). (r.0 ∷ others.0, others.1)) (again (drop r.1 bytes) (omega arith) (omega arith))

  pub same_read : (m n : ℕ) (bytes : List ℕ) → length bytes ≤ m → length bytes ≤ n → read_up_to m bytes ≡ read_up_to n bytes
  unfolding read_up_to
  same_read zero zero bytes h k = refl
  same_read zero (suc n) bytes h k = sym (none_left n bytes (reading bytes) refl h)
  same_read (suc m) zero bytes h k = none_left m bytes (reading bytes) refl k
  same_read (suc m) (suc n) bytes h k = same_step m n bytes (reading bytes) refl h k (same_read m n)

  -- ---- a body by its first record

  read_whole : (bytes : List ℕ) (read : Result (Raw062 × ℕ) ItemFault) → reading bytes ≡ read → read_up_to (length bytes) bytes ≡ and_then (read_up_to (length bytes)) bytes read
  unfolding read_up_to
  read_whole bytes read e = same_read (length bytes) (suc (length bytes)) bytes (omega arith) (omega arith) ∙ ap (and_then (read_up_to (length bytes)) bytes) e

  pub read_end : (bytes : List ℕ) (f : ItemFault) → reading bytes ≡ Err f → (records bytes ≡ []) × (left_of bytes ≡ bytes)
  unfolding records left_of
  read_end bytes f e =
      let whole : read_up_to (length bytes) bytes ≡ ([], bytes) = read_whole bytes (Err f) e in
      (ap (λ (p : List Raw062 × List ℕ). p.0) whole, ap (λ (p : List Raw062 × List ℕ). p.1) whole)

  pub read_more : (bytes : List ℕ) (r : Raw062 × ℕ) → reading bytes ≡ Ok r → (records bytes ≡ r.0 ∷ records (drop r.1 bytes)) × (left_of bytes ≡ left_of (drop r.1 bytes))
  unfolding records left_of
  read_more bytes r e =
      let rest : List ℕ = drop r.1 bytes in
      let left : length rest ≡ length bytes - r.1 = length-drop r.1 bytes in
      let fewer : read_up_to (length bytes) rest ≡ read_up_to (length rest) rest = same_read (length bytes) (length rest) rest (omega arith) (omega arith) in
      let whole : read_up_to (length bytes) bytes ≡ (r.0 ∷ (read_up_to (length rest) rest).0, (read_up_to (length rest) rest).1) =
      read_whole bytes (Ok r) e ∙ ap (λ (others : List Raw062 × List ℕ). (r.0 ∷ others.0, others.1)) fewer in
      (ap (λ (p : List Raw062 × List ℕ). p.0) whole, ap (λ (p : List Raw062 × List ℕ). p.1) whole)

  -- ---- the laws

  pub stopped : (bytes : List ℕ) → BeginsNone bytes → (read : Result (Raw062 × ℕ) ItemFault) → reading bytes ≡ read → (f : ItemFault) × (reading bytes ≡ Err f)
  stopped bytes none (Err f) e = (f, e)
  stopped bytes none (Ok r) e =
      let front = what_is_read bytes r e in
      absurd (none (take r.1 bytes) (drop r.1 bytes) front.items front.spelled (sym (take-append-drop r.1 bytes)))

  pub read_again : (body rest : List ℕ) (texts : List (List ℕ)) (items : List (List (List ℕ))) → body ≡ joined texts ++ rest → AllSpelled texts items → BeginsNone rest
      → (records body ≡ map contents items) × (left_of body ≡ rest)
  read_again body rest [] [] same spelled stops =
      let e = stopped rest stops (reading rest) refl in
      subst (λ (b : List ℕ). (records b ≡ []) × (left_of b ≡ rest)) (sym same) (read_end rest e.0 e.1)
  read_again body rest [] (items ∷ others) same spelled stops = absurd spelled
  read_again body rest (text ∷ texts) [] same spelled stops = absurd spelled
  read_again body rest (text ∷ texts) (items ∷ others) same spelled stops =
      let tail : List ℕ = joined texts ++ rest in
      let regrouped : body ≡ text ++ tail = same ∙ append_assoc text (joined texts) rest in
      let found : reading body ≡ Ok (contents items, length text) = ap reading regrouped ∙ reading_again text tail items spelled.0 in
      let left : drop (length text) body ≡ tail = ap (drop (length text)) regrouped ∙ drop-append_seam text tail in
      let more = read_more body (contents items, length text) found in
      let later = read_again tail rest texts others refl spelled.1 stops in
      (more.0 ∙ ap (λ (b : List ℕ). contents items ∷ records b) left ∙ ap (λ (r : List Raw062). contents items ∷ r) later.0, more.1 ∙ ap left_of left ∙ later.1)

  laid_step : (m : ℕ) (body : List ℕ) (read : Result (Raw062 × ℕ) ItemFault) → reading body ≡ read → length body ≤ suc m → ((rest : List ℕ) → length rest ≤ m → Laid rest) → Laid body
  laid_step m body (Err f) e h again = record { texts = []; items = []; rest = body; read = record { whole = refl; spelled = tt; stops = none_read body f e } }
  laid_step m body (Ok r) e h again =
      let front = what_is_read body r e in
      let some : 1 ≤ r.1 = size_some body r e in
      let left : length (drop r.1 body) ≡ length body - r.1 = length-drop r.1 body in
      let later = again (drop r.1 body) (omega arith) in
      let whole : body ≡ (take r.1 body ++ joined later.texts) ++ later.rest =
      sym (take-append-drop r.1 body) ∙ ap (λ (t : List ℕ). take r.1 body ++ t) later.read.whole ∙ sym (append_assoc (take r.1 body) (joined later.texts) later.rest) in
      record { texts = take r.1 body ∷ later.texts; items = front.items ∷ later.items; rest = later.rest; read = record { whole = whole; spelled = (front.spelled, later.read.spelled); stops = later.read.stops } }

  pub laid : (m : ℕ) (body : List ℕ) → length body ≤ m → Laid body
  laid zero body h = record { texts = []; items = []; rest = body; read = record { whole = refl; spelled = tt; stops = empty_stops body h } }
  laid (suc m) body h = laid_step m body (reading body) refl h (laid m)

  pub some_reading : (body : List ℕ) → (texts : List (List ℕ)) × (items : List (List (List ℕ))) × (rest : List ℕ) × IsRead body texts items rest
  some_reading body = let l = laid (length body) body (omega arith) in (l.texts, l.items, l.rest, l.read)

  refusal_of : (rest : List ℕ) (place size : ℕ) → size ≡ place + length rest → BeginsNone rest → IsRefusal rest place (refused_at size rest)
  refusal_of [] place size h stops = refl
  refusal_of (octet ∷ more) place size h stops =
      let e = stopped (octet ∷ more) stops (reading (octet ∷ more)) refl in
      let spot : size - length (octet ∷ more) ≡ place = omega arith in
      (e.0, (first_read (octet ∷ more) e.0 e.1, rw (fault_read (octet ∷ more) e.0 e.1, spot) refl))

  pub one_reading : (body : List ℕ) (texts : List (List ℕ)) (items : List (List (List ℕ))) (rest : List ℕ) → IsRead body texts items rest
      → (records body ≡ map contents items) × IsRefusal rest (length (joined texts)) (refusal body)
  unfolding refusal
  one_reading body texts items rest read =
      let both = read_again body rest texts items read.whole read.spelled read.stops in
      let long : length body ≡ length (joined texts) + length rest = ap length read.whole ∙ length-append (joined texts) rest in
      (both.0, subst (λ (left : List ℕ). IsRefusal rest (length (joined texts)) (refused_at (length body) left)) (sym both.1) (refusal_of rest (length (joined texts)) (length body) long read.stops))

  -- ---- by a walk

  pub walk_is : (bytes : List ℕ) (spans : List Span) (size : ℕ) → IsWalk CAT062.0 SUBS062.0 bytes spans size → reading bytes ≡ Ok (contents (texts_at bytes spans), size)
  walk_is bytes spans size w =
      let whole : take size bytes ++ drop size bytes ≡ bytes = take-append-drop size bytes in
      let long : length (take size bytes) ≡ size = length-take-le size bytes w.inside in
      let found : reading (take size bytes ++ drop size bytes) ≡ Ok (contents (texts_at bytes spans), length (take size bytes)) =
      reading_again (take size bytes) (drop size bytes) (texts_at bytes spans) (spells_of (take size bytes) (texts_at bytes spans) w.spelled) in
      ap reading (sym whole) ∙ found ∙ ap (λ (n : ℕ). let r : Result (Raw062 × ℕ) ItemFault = Ok (contents (texts_at bytes spans), n) in r) long

  pub only_read : (bytes : List ℕ) (r : Raw062 × ℕ) → reading bytes ≡ Ok r
      → (text rest : List ℕ) (items : List (List ℕ)) → Spells062 text items → bytes ≡ text ++ rest → (let found : Result (Raw062 × ℕ) ItemFault = Ok r in found ≡ Ok (contents items, length text))
  only_read bytes r e text rest items spelled same = sym e ∙ ap reading same ∙ reading_again text rest items spelled

  -- ---- what the reading says of a call that answers it

  pub spelled_by : (bytes : List ℕ) (read : Result (Raw062 × ℕ) ItemFault) → read ≡ reading bytes → IfOk read (λ found. IsFront bytes found.0 found.1)
  spelled_by bytes (Ok r) e = what_is_read bytes r (sym e)
  spelled_by bytes (Err f) e = tt

  pub only_by : (bytes : List ℕ) (read : Result (Raw062 × ℕ) ItemFault) → read ≡ reading bytes → ReadsSpelled bytes read
  only_by bytes (Ok r) e = only_read bytes r (sym e)
  only_by bytes (Err f) e = λ text rest items spelled same. absurd (none_read bytes f (sym e) text rest items spelled same)

pub fault_by : (bytes : List ℕ) (read : Result (Raw062 × ℕ) ItemFault) → read ≡ reading bytes → fault_of read ≡ fault062 bytes
fault_by bytes (Ok r) e = sym (none_refused bytes r (sym e))
fault_by bytes (Err f) e = sym (fault_read bytes f (sym e))
