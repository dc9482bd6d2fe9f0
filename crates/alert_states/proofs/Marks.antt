-- A subject's marks: what is on is live, and how the bits tell both, a cycle later.
use Rattle.std.proofs.Common.{◌≡◌, ℕ, zero, suc, ◌+◌, ◌%◌, ◌^◌, ◌≤◌, Bool, true, false, not, ◌&&◌, ◌||◌, ◌==◌, List, [], ◌∷◌, take, count_ones, nat_le, is_some, Option, Some, None, refl, ap, ◌∙◌, arith}
use Rattle.std.specs.List.{list_any}
use Rattle.site_types.specs.declared.site.Confirm.{Confirm}
use Rattle.alert_states.specs.declared.event.Hit.{Hit}
use Rattle.alert_states.specs.States.{begins, holds, is_live, is_on, window}
use Rattle.alert_states.specs.Steps.{begins_by, hits_after, on_after}
use Rattle.alert_states.proofs.Bits.{bits_of, bits_step, bits_within, count_bits, some_bits}

-- ---- what is on is live

more_any : (n w : ℕ) (marks : List (Option Hit)) → n ≤ w → list_any is_some (take n marks) ≡ true → list_any is_some (take w marks) ≡ true
more_any zero w marks le any = absurd (cc)
more_any (suc n) w [] le any = absurd (cc)
more_any (suc n) zero (o ∷ marks) le any = absurd (omega arith)
more_any (suc n) (suc w) (None ∷ marks) le any = more_any n w marks (omega arith) any
more_any (suc n) (suc w) (Some h ∷ marks) le any = refl

some_window : (c : Confirm) → 1 ≤ window c
some_window c = omega arith

begun_is_live : (c : Confirm) (marks : List (Option Hit)) → begins c marks ≡ true → list_any is_some (take 1 marks) ≡ true
begun_is_live c [] e = absurd (cc)
begun_is_live c (None ∷ before) e = absurd (cc)
begun_is_live c (Some h ∷ before) e = refl

on_live_at : (c : Confirm) (now : Option Hit) (before : List (Option Hit)) (new on held : Bool) → begins c (now ∷ before) ≡ new → holds c (now ∷ before) ≡ held → (new || (on && held)) ≡ true → is_live c (now ∷ before) ≡ true
on_live_at c now before true on held at_new at_held e = more_any 1 (window c) (now ∷ before) (some_window c) (begun_is_live c (now ∷ before) at_new)
on_live_at c now before false true true at_new at_held e = more_any (c.hold + 1) (window c) (now ∷ before) (omega arith) at_held
on_live_at c now before false true false at_new at_held e = absurd (cc)
on_live_at c now before false false held at_new at_held e = absurd (cc)

pub on_is_live : (c : Confirm) (marks : List (Option Hit)) → is_on c marks ≡ true → is_live c marks ≡ true
on_is_live c [] e = absurd (cc)
on_is_live c (now ∷ before) e = on_live_at c now before (begins c (now ∷ before)) (is_on c before) (holds c (now ∷ before)) refl refl e

off_at : (on live : Bool) → (on ≡ true → live ≡ true) → live ≡ false → on ≡ false
off_at true live up dead = let e = up refl in absurd (cc)
off_at false live up dead = refl

pub dead_is_off : (c : Confirm) (marks : List (Option Hit)) → is_live c marks ≡ false → is_on c marks ≡ false
dead_is_off c marks dead = off_at (is_on c marks) (is_live c marks) (on_is_live c marks) dead

fewer : (w : ℕ) (marks : List (Option Hit)) (any : Bool) → list_any is_some (take w marks) ≡ any → list_any is_some (take (suc w) marks) ≡ false → any ≡ false
fewer w marks true at none = let e = more_any w (suc w) marks (omega arith) at in absurd (cc)
fewer w marks false at none = refl

none_more : (w : ℕ) (marks : List (Option Hit)) → list_any is_some (take w marks) ≡ false → list_any is_some (take w (None ∷ marks)) ≡ false
none_more zero marks none = refl
none_more (suc w) marks none = fewer w marks (list_any is_some (take w marks)) refl none

-- a subject that isn't live and isn't hit isn't live a cycle later
pub dead_stays : (c : Confirm) (marks : List (Option Hit)) → is_live c marks ≡ false → is_live c (None ∷ marks) ≡ false
dead_stays c marks dead = none_more (window c) marks dead

-- no bit is set of a subject that isn't live
pub dead_bits : (c : Confirm) (marks : List (Option Hit)) → (bits_of (window c) marks == 0) ≡ not (is_live c marks)
dead_bits c marks = some_bits (take (window c) marks)

-- ---- a cycle later

pub hits_later : (c : Confirm) (marks : List (Option Hit)) (now : Option Hit) → hits_after c (bits_of (window c) marks) now ≡ bits_of (window c) (now ∷ marks)
hits_later c marks now = bits_step (window c) now marks

begins_later : (c : Confirm) (marks : List (Option Hit)) (now : Option Hit) → begins_by c (bits_of (window c) (now ∷ marks)) now ≡ begins c (now ∷ marks)
begins_later c marks None = refl
begins_later c marks (Some h) =
    ap (λ n. h.urgent || nat_le c.m n)
    (ap count_ones (bits_within c.n (window c) (Some h ∷ marks) (omega arith)) ∙ count_bits c.n (Some h ∷ marks))

twice_not : (b : Bool) → not (not b) ≡ b
twice_not true = refl
twice_not false = refl

holds_later : (c : Confirm) (marks : List (Option Hit)) → not (bits_of (window c) marks % 2 ^ (c.hold + 1) == 0) ≡ holds c marks
holds_later c marks =
    ap (λ m. not (m == 0)) (bits_within (c.hold + 1) (window c) marks (omega arith))
    ∙ ap not (some_bits (take (c.hold + 1) marks))
    ∙ twice_not (holds c marks)

pub on_later : (c : Confirm) (marks : List (Option Hit)) (now : Option Hit) → on_after c (is_on c marks) (bits_of (window c) (now ∷ marks)) now ≡ is_on c (now ∷ marks)
on_later c marks now =
    ap (λ b. b || (is_on c marks && not (bits_of (window c) (now ∷ marks) % 2 ^ (c.hold + 1) == 0))) (begins_later c marks now)
    ∙ ap (λ b. begins c (now ∷ marks) || (is_on c marks && b)) (holds_later c (now ∷ marks))
