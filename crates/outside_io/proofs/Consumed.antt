-- Bytes that are consumed in pieces, and a text of at most so many of them.
use Rattle.std.proofs.Common.{◌≡◌, ℕ, ◌≤◌, List, [], ◌++◌, Option, Some, None, length, take, refl, sym, ap, ◌∙◌, arith}
use Rattle.std.proofs.lemmas.List.{take_all, append-nil, append_assoc, take-append-le}
use Rattle.std.specs.Io.KnownBytes.{Consumes, IsAtEnd}
use Rattle.outside_io.specs.Texts.{ReadsText}

pub consumes_nothing : (o : Option (List ℕ)) → Consumes o o []
consumes_nothing None = tt
consumes_nothing (Some octets) = refl

pub consumes_more : (old now new : Option (List ℕ)) (front next : List ℕ) → Consumes old now front → Consumes now new next → Consumes old new (front ++ next)
consumes_more None now new front next one two = tt
consumes_more (Some octets) None new front next one two = absurd one
consumes_more (Some octets) (Some left) None front next one two = absurd two
consumes_more (Some octets) (Some left) (Some rest) front next one two = one ∙ ap (λ l. front ++ l) two ∙ sym (append_assoc front next rest)

whole : (told bytes left : List ℕ) (room : ℕ) → told ≡ bytes ++ left → left ≡ [] → length bytes ≤ room → bytes ≡ take room told
whole told bytes left room taken ended within =
    sym (take_all room bytes within) ∙ ap (take room) (sym (append-nil bytes) ∙ ap (λ l. bytes ++ l) (sym ended) ∙ sym taken)

front_is : (told bytes left : List ℕ) (room : ℕ) → told ≡ bytes ++ left → length bytes ≡ room → bytes ≡ take room told
front_is told bytes left room taken full =
    sym (take_all room bytes (omega arith)) ∙ sym (take-append-le room bytes left (omega arith)) ∙ ap (take room) (sym taken)

pub text_to_end : (old new : Option (List ℕ)) (most : ℕ) (text : List ℕ) → Consumes old new text → IsAtEnd new → length text ≤ most → ReadsText old most text
text_to_end None new most text taken at_end within = tt
text_to_end (Some octets) None most text taken at_end within = absurd taken
text_to_end (Some octets) (Some left) most text taken at_end within = whole octets text left most taken at_end within

pub text_to_room : (old new : Option (List ℕ)) (most : ℕ) (text : List ℕ) → Consumes old new text → length text ≡ most → ReadsText old most text
text_to_room None new most text taken full = tt
text_to_room (Some octets) None most text taken full = absurd taken
text_to_room (Some octets) (Some left) most text taken full = front_is octets text left most taken full
