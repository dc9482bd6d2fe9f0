-- A text that is taken piece by piece.
use Rattle.std.proofs.Common.{◌≡◌, ◌≤◌, ◌<◌, ◌+◌, ◌∙◌, ℕ, List, ◌++◌, Option, length, take, drop, get_or, min, sym, ap, subst, suc, take-append-drop, drop-cons, arith, Result, Ok, Err, IsErr}
use Rattle.std.proofs.Math.Seq.{take-append-add}
use Rattle.std.proofs.KnownBytes.{Appends-trans}
use Rattle.std.proofs.lemmas.List.{take-append-le, take_all, take_min}
use Rattle.std.proofs.lemmas.List.Concat.{flat_map-append}
use Rattle.std.specs.Io.KnownBytes.{Appends}
use Rattle.std.specs.List.{flat_map}
use Rattle.outside_io.specs.Bytes.{AppendsPrefix, AppendsWhole}
use Rattle.outside_io.specs.Faults.{HasCause}
use Rattle.replay_cli.specs.Endings.{Tells}

-- a prefix of a piece behind what stands before it is a prefix of the whole
pub prefix-next : (a b c : Option (List ℕ)) (front piece rest : List ℕ) → Appends a b front → AppendsPrefix b c piece → AppendsPrefix a c (front ++ (piece ++ rest))
prefix-next a b c front piece rest before next =
    let count = min next.0 (length piece) in
    let within : count ≤ length piece = omega arith in
    let joined : front ++ take next.0 piece ≡ take (length front + count) (front ++ (piece ++ rest)) =
    sym (take-append-add front (piece ++ rest) count ∙ ap (λ (t : List ℕ). front ++ t) (take-append-le count piece rest within ∙ take_min next.0 piece)) in
    (length front + count, subst (Appends a c) joined (Appends-trans a b c front (take next.0 piece) before next.1))

-- a prefix of one of the pieces behind those before it is a prefix of all
pub prefix-part : {X : Type 0} (f : X → List ℕ) (a b c : Option (List ℕ)) (xs : List X) (i : ℕ) (d : X) → i < length xs → Appends a b (flat_map f (take i xs)) → AppendsPrefix b c (f (get_or xs i d))
    → AppendsPrefix a c (flat_map f xs)
prefix-part f a b c xs i d within before next =
    let split = ap (λ ys. flat_map f (take i xs) ++ flat_map f ys) (sym (drop-cons xs i d within)) ∙ sym (flat_map-append f (take i xs) (drop i xs)) ∙ ap (flat_map f) (take-append-drop i xs) in
    subst (AppendsPrefix a c) split (prefix-next a b c (flat_map f (take i xs)) (f (get_or xs i d)) (flat_map f (drop (suc i) xs)) before next)

-- where it fails, a prefix was taken
pub fails-with-prefix : {E : Type 0} (a b : Option (List ℕ)) (text : List ℕ) (result : Result (Unit {0}) E) → IsErr result → AppendsPrefix a b text → AppendsWhole a b result text
fails-with-prefix a b text (Ok u) failed prefix = cc
fails-with-prefix a b text (Err e) failed prefix = prefix

-- all of a text is a prefix of it
pub prefix-whole : (a b : Option (List ℕ)) (text : List ℕ) → Appends a b text → AppendsPrefix a b text
prefix-whole a b text all = (length text, subst (Appends a b) (sym (take_all (length text) text (omega arith))) all)

-- what a call that answers whether it failed says of a text that was told
pub tells : {E : Type 0} (a b : Option (List ℕ)) (before now : ℕ) (text : List ℕ) (result : Result (Unit {0}) E) → AppendsWhole a b result text → HasCause before now result → Tells a b before now text
tells a b before now text (Ok u) bytes cause = record { prefix = prefix-whole a b text bytes; whole = λ _. bytes; later = cause.later }
tells a b before now text (Err e) bytes cause = record { prefix = bytes; whole = λ stayed. absurd (stayed cause.failed); later = cause.later }
