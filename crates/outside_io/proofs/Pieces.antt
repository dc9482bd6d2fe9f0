-- Bytes that are taken in pieces.
use Rattle.std.proofs.Common.{◌≡◌, ℕ, ◌+◌, ◌-◌, List, ◌++◌, Option, length, take, drop, sym, ap, ◌∙◌, subst, length-drop, ◌≤◌, [], arith}
use Rattle.std.proofs.Math.Seq.{take-add}
use Rattle.std.proofs.lemmas.List.{take_rest, take-append-drop, drop-drop, nil_from_length, length-take-le}
use Rattle.std.proofs.KnownBytes.{Appends-trans}
use Rattle.std.specs.Io.KnownBytes.{Appends}

-- a prefix, and then the first bytes of the rest, are a longer prefix
pub appends-next : (a b c : Option (List ℕ)) (bytes : List ℕ) (done n : ℕ)
    → Appends a b (take done bytes)
    → Appends b c (take n (take (length bytes - done) (drop done bytes)))
    → Appends a c (take (done + n) bytes)
appends-next a b c bytes done n before next =
    let joined : take done bytes ++ take n (take (length bytes - done) (drop done bytes)) ≡ take (done + n) bytes =
    ap (λ rest. take done bytes ++ take n rest) (take_rest bytes done) ∙ sym (take-add done n bytes) in
    subst (Appends a c) joined (Appends-trans a b c _ _ before next)

-- how many bytes are left after a prefix
pub rest_length : (bytes : List ℕ) (done : ℕ) → length (take (length bytes - done) (drop done bytes)) ≡ length bytes - done
rest_length bytes done = ap length (take_rest bytes done) ∙ length-drop done bytes

-- a buffer that begins with the next bytes has consumed them
pub consumes-next : (bytes left buf : List ℕ) (at n : ℕ) → left ≡ drop at bytes → n ≤ length left
    → take (length (take n left)) buf ≡ take n left → drop at bytes ≡ take n buf ++ drop (at + n) bytes
consumes-next bytes left buf at n is within copied =
    let front : take n buf ≡ take n left = subst (λ k. take k buf ≡ take n left) (length-take-le n left within) copied in
    let rest : drop n left ≡ drop (at + n) bytes = ap (drop n) is ∙ drop-drop n at bytes in
    sym is ∙ sym (take-append-drop n left) ∙ ap (λ xs. xs ++ drop n left) (sym front) ∙ ap (λ ys. take n buf ++ ys) rest

-- where nothing is left, nothing is left after that
pub nothing-left : (bytes : List ℕ) (at n : ℕ) → length bytes - at ≡ 0 → drop (at + n) bytes ≡ []
nothing-left bytes at n none = nil_from_length (drop (at + n) bytes) (omega (arith, length-drop (at + n) bytes))
