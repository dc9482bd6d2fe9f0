-- The order of subjects is total, and subjects that are equal in it are the same.
use Rattle.std.proofs.Common.{◌≡◌, ℕ, true, refl, sym, arith}
use Rattle.std.specs.declared.cmp.Ordering.{Ordering}
use Rattle.std.specs.declared.cmp.Ordering.TheVariants.{Less, Equal, Greater}
use Rattle.std.specs.Ordering.{is_eq, nat_cmp, ordering_then}
use Rattle.std.specs.Cmp.{IsTotalOrder, tied_itself}
use Rattle.std.proofs.lemmas.Cmp.{nat_cmp_total, on_total, ranked, then_total}
use Rattle.track_motion.specs.declared.track.TrackKey.{TrackKey}
use Rattle.track_motion.specs.Keys.{key_cmp}
use Rattle.site_types.specs.declared.net.Net.{Net}
use Rattle.site_types.specs.declared.net.Net.TheVariants.{Stca, Msaw, Apw, Apm}
use Rattle.alert_states.specs.declared.event.Subject.{Subject}
use Rattle.alert_states.specs.Subjects.{subject_cmp}
use Rattle.site_types.specs.Nets.{place}

then_equal : (a b : Ordering) → ordering_then a b ≡ Equal → (a ≡ Equal) × (b ≡ Equal)
then_equal Less b e = absurd (cc)
then_equal Equal b e = (refl, e)
then_equal Greater b e = absurd (cc)

nat_equal : (x y : ℕ) → nat_cmp x y ≡ Equal → x ≡ y
nat_equal x y e = ranked x y Equal (sym e)

-- ---- keys of tracks

key_total : IsTotalOrder key_cmp
key_total = then_total (on_total (λ (k : TrackKey). k.sac) nat_cmp_total) (then_total (on_total (λ (k : TrackKey). k.sic) nat_cmp_total) (on_total (λ (k : TrackKey). k.number) nat_cmp_total))

same_key : (s t i j m n : ℕ) → s ≡ t → i ≡ j → m ≡ n → (let k : TrackKey = record { sac = s; sic = i; number = m } in k) ≡ record { sac = t; sic = j; number = n }
same_key s t i j m n one two three = rw (one, two, three) refl

key_equal : (a b : TrackKey) → key_cmp a b ≡ Equal → a ≡ b
key_equal a b e =
    let sac = then_equal (nat_cmp a.sac b.sac) (ordering_then (nat_cmp a.sic b.sic) (nat_cmp a.number b.number)) e in
    let sic = then_equal (nat_cmp a.sic b.sic) (nat_cmp a.number b.number) sac.1 in
    same_key a.sac b.sac a.sic b.sic a.number b.number (nat_equal a.sac b.sac sac.0) (nat_equal a.sic b.sic sic.0) (nat_equal a.number b.number sic.1)

-- ---- subjects

same_net : (a b : Net) → place a ≡ place b → a ≡ b
same_net Stca Stca e = refl
same_net Stca Msaw e = absurd (omega arith)
same_net Stca Apw e = absurd (omega arith)
same_net Stca Apm e = absurd (omega arith)
same_net Msaw Stca e = absurd (omega arith)
same_net Msaw Msaw e = refl
same_net Msaw Apw e = absurd (omega arith)
same_net Msaw Apm e = absurd (omega arith)
same_net Apw Stca e = absurd (omega arith)
same_net Apw Msaw e = absurd (omega arith)
same_net Apw Apw e = refl
same_net Apw Apm e = absurd (omega arith)
same_net Apm Stca e = absurd (omega arith)
same_net Apm Msaw e = absurd (omega arith)
same_net Apm Apw e = absurd (omega arith)
same_net Apm Apm e = refl

pub subject_total : IsTotalOrder subject_cmp
subject_total =
    then_total (on_total (λ (s : Subject). place s.net) nat_cmp_total)
    (then_total (on_total (λ (s : Subject). s.key) key_total)
    (then_total (on_total (λ (s : Subject). s.other) key_total) (on_total (λ (s : Subject). s.object) nat_cmp_total)))

same_parts : (m n : Net) (k l : TrackKey) (o p : TrackKey) (i j : ℕ) → m ≡ n → k ≡ l → o ≡ p → i ≡ j →
    (let s : Subject = record { net = m; key = k; other = o; object = i } in s) ≡ record { net = n; key = l; other = p; object = j }
same_parts m n k l o p i j one two three four = rw (one, two, three, four) refl

-- subjects that are equal in order are the same
pub subject_equal : (a b : Subject) → subject_cmp a b ≡ Equal → a ≡ b
subject_equal a b e =
    let net = then_equal (nat_cmp (place a.net) (place b.net)) (ordering_then (key_cmp a.key b.key) (ordering_then (key_cmp a.other b.other) (nat_cmp a.object b.object))) e in
    let key = then_equal (key_cmp a.key b.key) (ordering_then (key_cmp a.other b.other) (nat_cmp a.object b.object)) net.1 in
    let other = then_equal (key_cmp a.other b.other) (nat_cmp a.object b.object) key.1 in
    same_parts a.net b.net a.key b.key a.other b.other a.object b.object
    (same_net a.net b.net (nat_equal (place a.net) (place b.net) net.0)) (key_equal a.key b.key key.0) (key_equal a.other b.other other.0) (nat_equal a.object b.object other.1)

pub itself : (s : Subject) → subject_cmp s s ≡ Equal
itself s = tied_itself subject_total s

equal_from : (o : Ordering) → is_eq o ≡ true → o ≡ Equal
equal_from Less e = absurd (cc)
equal_from Equal e = refl
equal_from Greater e = absurd (cc)

pub same_subject : (q s : Subject) → is_eq (subject_cmp q s) ≡ true → q ≡ s
same_subject q s e = subject_equal q s (equal_from (subject_cmp q s) e)
