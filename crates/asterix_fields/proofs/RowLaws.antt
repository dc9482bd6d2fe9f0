-- What presence octets name, row by row: what is read is spelled, and what is spelled is read.
use Rattle.std.proofs.Common.{◌≡◌, ℕ, zero, suc, ◌+◌, ◌<◌, ◌≤◌, Bool, true, false, cond, List, [], ◌∷◌, ◌++◌, length, get_or, take, drop, Ok, Err, refl, ap, sym, ◌∙◌, subst, arith, length-append, append_assoc}
use Rattle.std.specs.List.{AllByRecursion}
use Rattle.std.proofs.lemmas.List.{length-take-le, take-append-drop, take_at, drop_at}
use Rattle.asterix_fields.specs.declared.tables.Form.{Form}
use Rattle.asterix_fields.specs.declared.tables.Form.TheVariants.{Spare}
use Rattle.asterix_fields.specs.declared.places.Span.{Span}
use Rattle.asterix_fields.specs.Spelling.{joined, is_named, IsPresence, Stands, Lays, places, texts_at}
use Rattle.asterix_fields.specs.Faults.{◌>>=◌, named_at, spans_at}
use Rattle.asterix_fields.proofs.PresenceLaws.{Read, ok_is, not_ok}

pub bind_ok : {A B : Type 0} (read : Read A) (f : A → Read B) (y : B) → (read >>= f) ≡ Ok y → (x : A) × (read ≡ Ok x) × (f x ≡ Ok y)
bind_ok (Ok x) f y e = (x, refl, e)
bind_ok (Err fault) f y e = not_ok fault y e

-- a reader of one item, and what spells an item, for the forms of tables that are good
pub record Reads (item_at : ℕ → Form → List ℕ → Read ℕ) (IsItem : Form → List ℕ → Type 0) (Good : Form → Type 0) : Type 0 where
  pub takes : (number : ℕ) (form : Form) (bytes : List ℕ) (n : ℕ) → Good form → item_at number form bytes ≡ Ok n → (n ≤ length bytes) × IsItem form (take n bytes)
  pub again : (number : ℕ) (form : Form) (text rest : List ℕ) → Good form → IsItem form text → item_at number form (text ++ rest) ≡ Ok (length text)

pub stands_takes : (IsItem : Form → List ℕ → Type 0) (named : Bool) (form : Form) (read : Read ℕ) (bytes : List ℕ) (n : ℕ)
    → (read ≡ Ok n → (n ≤ length bytes) × IsItem form (take n bytes)) → cond named read (Ok 0) ≡ Ok n → (n ≤ length bytes) × Stands IsItem named form (take n bytes)
stands_takes IsItem true form read bytes n takes e = takes e
stands_takes IsItem false form read bytes n takes e =
    let none : 0 ≡ n = ok_is 0 n e in
    subst (λ (m : ℕ). (m ≤ length bytes) × (take m bytes ≡ [])) none (omega arith, refl)

pub stands_again : (IsItem : Form → List ℕ → Type 0) (named : Bool) (form : Form) (read : Read ℕ) (text : List ℕ)
    → (IsItem form text → read ≡ Ok (length text)) → Stands IsItem named form text → cond named read (Ok 0) ≡ Ok (length text)
stands_again IsItem true form read text again h = again h
stands_again IsItem false form read text again h = ap (λ (t : List ℕ). Ok (length t)) (sym h)

-- the texts of rows, by recursion on both
abbrev pub AreTexts : (Form → List ℕ → Type 0) → List ℕ → ℕ → List Form → List (List ℕ) → Type 0
AreTexts IsItem presence number [] [] = Unit {0}
AreTexts IsItem presence number [] (text ∷ texts) = ⊥
AreTexts IsItem presence number (form ∷ forms) [] = ⊥
AreTexts IsItem presence number (form ∷ forms) (text ∷ texts) = Stands IsItem (is_named presence number) form text × AreTexts IsItem presence (number + 1) forms texts

pub AreTexts-length : (IsItem : Form → List ℕ → Type 0) (presence : List ℕ) (number : ℕ) (forms : List Form) (texts : List (List ℕ)) → AreTexts IsItem presence number forms texts → length texts ≡ length forms
AreTexts-length IsItem presence number [] [] h = refl
AreTexts-length IsItem presence number [] (text ∷ texts) h = absurd h
AreTexts-length IsItem presence number (form ∷ forms) [] h = absurd h
AreTexts-length IsItem presence number (form ∷ forms) (text ∷ texts) h = ap suc (AreTexts-length IsItem presence (number + 1) forms texts h.1)

pub AreTexts-each : (IsItem : Form → List ℕ → Type 0) (presence : List ℕ) (number : ℕ) (forms : List Form) (texts : List (List ℕ)) → AreTexts IsItem presence number forms texts
    → (k : ℕ) → k < length forms → Stands IsItem (is_named presence (k + number)) (get_or forms k Spare) (get_or texts k [])
AreTexts-each IsItem presence number [] texts h k inside = absurd (omega arith)
AreTexts-each IsItem presence number (form ∷ forms) [] h k inside = absurd h
AreTexts-each IsItem presence number (form ∷ forms) (text ∷ texts) h zero inside =
    subst (λ (m : ℕ). Stands IsItem (is_named presence m) form text) (omega arith) h.0
AreTexts-each IsItem presence number (form ∷ forms) (text ∷ texts) h (suc k) inside =
    let number_is : k + (number + 1) ≡ suc k + number = omega arith in
    subst (λ (m : ℕ). Stands IsItem (is_named presence m) (get_or forms k Spare) (get_or texts k [])) number_is
    (AreTexts-each IsItem presence (number + 1) forms texts h.1 k (omega arith))

pub AreTexts-from_each : (IsItem : Form → List ℕ → Type 0) (presence : List ℕ) (number : ℕ) (forms : List Form) (texts : List (List ℕ)) → length texts ≡ length forms
    → ((k : ℕ) → k < length forms → Stands IsItem (is_named presence (k + number)) (get_or forms k Spare) (get_or texts k []))
    → AreTexts IsItem presence number forms texts
AreTexts-from_each IsItem presence number [] [] same each = tt
AreTexts-from_each IsItem presence number [] (text ∷ texts) same each = absurd (omega arith)
AreTexts-from_each IsItem presence number (form ∷ forms) [] same each = absurd (omega arith)
AreTexts-from_each IsItem presence number (form ∷ forms) (text ∷ texts) same each = (
  subst (λ (m : ℕ). Stands IsItem (is_named presence m) form text) (omega arith) (each 0 (omega arith)),
  AreTexts-from_each IsItem presence (number + 1) forms texts (omega arith) (λ k inside.
      let number_is : suc k + number ≡ k + (number + 1) = omega arith in
      subst (λ (m : ℕ). Stands IsItem (is_named presence m) (get_or forms k Spare) (get_or texts k [])) number_is (each (suc k) (omega arith))),
)

-- what was read of rows: their texts, one after the other
pub record Texts (IsItem : Form → List ℕ → Type 0) (presence : List ℕ) (number at : ℕ) (forms : List Form) (bytes : List ℕ) (found : List Span × ℕ) : Type 0 where
  pub texts : List (List ℕ)
  pub stand : AreTexts IsItem presence number forms texts
  pub rest : List ℕ
  pub whole : bytes ≡ joined texts ++ rest
  pub spans : found.0 ≡ places at texts
  pub end : found.1 ≡ at + length (joined texts)

pub spans_take : (item_at : ℕ → Form → List ℕ → Read ℕ) (IsItem : Form → List ℕ → Type 0) (Good : Form → Type 0) → Reads item_at IsItem Good
    → (presence : List ℕ) (number at : ℕ) (forms : List Form) (bytes : List ℕ) (found : List Span × ℕ) → AllByRecursion Good forms
    → spans_at item_at presence number at forms bytes ≡ Ok found → Texts IsItem presence number at forms bytes found
unfolding spans_at
spans_take item_at IsItem Good reads presence number at [] bytes found good e =
    subst (λ (f : List Span × ℕ). Texts IsItem presence number at [] bytes f) (ok_is ([], at) found e)
    (record { texts = []; stand = tt; rest = bytes; whole = refl; spans = refl; end = omega arith })
spans_take item_at IsItem Good reads presence number at (form ∷ forms) bytes found good e =
    let later : ℕ → Read (List Span × ℕ) = λ size. spans_at item_at presence (number + 1) (at + size) forms (drop size bytes) in
    let first = bind_ok (named_at item_at presence number form bytes) (λ size. later size >>= λ others. Ok (record { at = at; len = size } ∷ others.0, others.1)) found e in
    let size : ℕ = first.0 in
    let others = bind_ok (later size) (λ others. Ok (record { at = at; len = size } ∷ others.0, others.1)) found first.2 in
    let here = stands_takes IsItem (is_named presence number) form (item_at number form bytes) bytes size (reads.takes number form bytes size good.0) first.1 in
    let t = spans_take item_at IsItem Good reads presence (number + 1) (at + size) forms (drop size bytes) others.0 good.1 others.1 in
    let text : List ℕ = take size bytes in
    let long : length text ≡ size = length-take-le size bytes here.0 in
    let spans : record { at = at; len = size } ∷ others.0.0 ≡ places at (text ∷ t.texts) =
    subst (λ (m : ℕ). record { at = at; len = size } ∷ others.0.0 ≡ record { at = at; len = m } ∷ places (at + m) t.texts) (sym long) (ap (λ (s : List Span). record { at = at; len = size } ∷ s) t.spans) in
    let whole : bytes ≡ joined (text ∷ t.texts) ++ t.rest =
    sym (take-append-drop size bytes) ∙ ap (λ (b : List ℕ). text ++ b) t.whole ∙ sym (append_assoc text (joined t.texts) t.rest) in
    let end : others.0.1 ≡ at + length (joined (text ∷ t.texts)) = let s = t.end in omega (arith, length-append text (joined t.texts)) in
    subst (λ (f : List Span × ℕ). Texts IsItem presence number at (form ∷ forms) bytes f) (ok_is (record { at = at; len = size } ∷ others.0.0, others.0.1) found others.2)
    (record { texts = text ∷ t.texts; stand = (here.1, t.stand); rest = t.rest; whole = whole; spans = spans; end = end })

pub spans_again : (item_at : ℕ → Form → List ℕ → Read ℕ) (IsItem : Form → List ℕ → Type 0) (Good : Form → Type 0) → Reads item_at IsItem Good
    → (presence : List ℕ) (number at : ℕ) (forms : List Form) (texts : List (List ℕ)) (rest : List ℕ) → AllByRecursion Good forms
    → AreTexts IsItem presence number forms texts
    → spans_at item_at presence number at forms (joined texts ++ rest) ≡ Ok (places at texts, at + length (joined texts))
unfolding spans_at
spans_again item_at IsItem Good reads presence number at [] [] rest good h = ap (λ (end : ℕ). Ok ([], end)) (omega arith)
spans_again item_at IsItem Good reads presence number at [] (text ∷ texts) rest good h = absurd h
spans_again item_at IsItem Good reads presence number at (form ∷ forms) [] rest good h = absurd h
spans_again item_at IsItem Good reads presence number at (form ∷ forms) (text ∷ texts) rest good h =
    let tail : List ℕ = joined texts ++ rest in
    let first : named_at item_at presence number form (text ++ tail) ≡ Ok (length text) =
    stands_again IsItem (is_named presence number) form (item_at number form (text ++ tail)) text (reads.again number form text tail good.0) h.0 in
    let others = spans_again item_at IsItem Good reads presence (number + 1) (at + length text) forms texts rest good.1 h.1 in
    let rest_is : drop (length text) (text ++ tail) ≡ tail = drop_at text tail (length text) refl in
    let sum : at + length text + length (joined texts) ≡ at + length (text ++ joined texts) = omega (arith, length-append text (joined texts)) in
    ap (spans_at item_at presence number at (form ∷ forms)) (append_assoc text (joined texts) rest)
    ∙ rw (first, rest_is, others) (ap (λ (end : ℕ). Ok (record { at = at; len = length text } ∷ places (at + length text) texts, end)) sum)

-- the texts stand at their places
pub texts_at-places : (front : List ℕ) (texts : List (List ℕ)) (rest : List ℕ) → texts_at (front ++ (joined texts ++ rest)) (places (length front) texts) ≡ texts
texts_at-places front [] rest = refl
texts_at-places front (text ∷ texts) rest =
    let tail : List ℕ = joined texts ++ rest in
    let regrouped : front ++ (joined (text ∷ texts) ++ rest) ≡ front ++ (text ++ tail) = ap (λ (b : List ℕ). front ++ b) (append_assoc text (joined texts) rest) in
    let here : take (length text) (drop (length front) (front ++ (text ++ tail))) ≡ text =
    ap (take (length text)) (drop_at front (text ++ tail) (length front) refl) ∙ take_at text tail (length text) refl in
    let again : texts_at ((front ++ text) ++ tail) (places (length (front ++ text)) texts) ≡ texts = texts_at-places (front ++ text) texts rest in
    let moved : texts_at (front ++ (text ++ tail)) (places (length front + length text) texts) ≡ texts =
    subst (λ (m : ℕ). texts_at (front ++ (text ++ tail)) (places m texts) ≡ texts) (length-append front text)
    (subst (λ (b : List ℕ). texts_at b (places (length (front ++ text)) texts) ≡ texts) (append_assoc front text tail) again) in
    ap (λ (b : List ℕ). texts_at b (places (length front) (text ∷ texts))) regrouped ∙ (cc)

-- what was read behind presence octets is laid out by a table
pub record Laid (IsItem : Form → List ℕ → Type 0) (rows : List Form) (bytes : List ℕ) (n : ℕ) (found : List Span × ℕ) : Type 0 where
  pub inside : found.1 ≤ length bytes
  pub texts : List (List ℕ)
  pub lays : Lays IsItem rows (take found.1 bytes) texts
  pub size : length lays.presence ≡ n
  pub spans : found.0 ≡ places n texts
  pub read : texts_at bytes found.0 ≡ texts

pub lays_take : (item_at : ℕ → Form → List ℕ → Read ℕ) (IsItem : Form → List ℕ → Type 0) (Good : Form → Type 0) → Reads item_at IsItem Good
    → (rows : List Form) (bytes : List ℕ) (n : ℕ) (found : List Span × ℕ) → AllByRecursion Good rows → n ≤ length bytes → IsPresence (take n bytes)
    → ((number : ℕ) → length rows < number → is_named (take n bytes) number ≡ false)
    → spans_at item_at (take n bytes) 1 n rows (drop n bytes) ≡ Ok found → Laid IsItem rows bytes n found
lays_take item_at IsItem Good reads rows bytes n found good inside presence only e =
    let front : List ℕ = take n bytes in
    let t = spans_take item_at IsItem Good reads front 1 n rows (drop n bytes) found good e in
    let long : length front ≡ n = length-take-le n bytes inside in
    let whole : bytes ≡ front ++ (joined t.texts ++ t.rest) = sym (take-append-drop n bytes) ∙ ap (λ (b : List ℕ). front ++ b) t.whole in
    let all : bytes ≡ (front ++ joined t.texts) ++ t.rest = whole ∙ sym (append_assoc front (joined t.texts) t.rest) in
    let size : length (front ++ joined t.texts) ≡ found.1 = let s = t.end in omega (arith, length-append front (joined t.texts)) in
    let text : take found.1 bytes ≡ front ++ joined t.texts = ap (take found.1) all ∙ take_at (front ++ joined t.texts) t.rest found.1 size in
    let total : length bytes ≡ length ((front ++ joined t.texts) ++ t.rest) = ap length all in
    let places_are : found.0 ≡ places (length front) t.texts = t.spans ∙ ap (λ (m : ℕ). places m t.texts) (sym long) in
    let read : texts_at bytes found.0 ≡ t.texts = ap (λ (b : List ℕ). texts_at b found.0) whole ∙ ap (texts_at (front ++ (joined t.texts ++ t.rest))) places_are ∙ texts_at-places front t.texts t.rest in
    record {
      inside = omega (arith, length-append (front ++ joined t.texts) t.rest);
      texts = t.texts;
      lays = record {
        presence = front;
        octets = presence;
        only_rows = only;
        count = AreTexts-length IsItem front 1 rows t.texts t.stand;
        each = AreTexts-each IsItem front 1 rows t.texts t.stand;
        whole = text;
      };
      size = long;
      spans = t.spans;
      read = read;
    }

pub lays_again : (item_at : ℕ → Form → List ℕ → Read ℕ) (IsItem : Form → List ℕ → Type 0) (Good : Form → Type 0) → Reads item_at IsItem Good
    → (rows : List Form) (text rest : List ℕ) (texts : List (List ℕ)) → AllByRecursion Good rows → (lays : Lays IsItem rows text texts)
    → spans_at item_at lays.presence 1 (length lays.presence) rows (joined texts ++ rest) ≡ Ok (places (length lays.presence) texts, length text)
lays_again item_at IsItem Good reads rows text rest texts good lays =
    let front : List ℕ = lays.presence in
    let sum : length front + length (joined texts) ≡ length text = sym (ap length lays.whole ∙ length-append front (joined texts)) in
    spans_again item_at IsItem Good reads front 1 (length front) rows texts rest good (AreTexts-from_each IsItem front 1 rows texts lays.count lays.each)
    ∙ ap (λ (end : ℕ). Ok (places (length front) texts, end)) sum
