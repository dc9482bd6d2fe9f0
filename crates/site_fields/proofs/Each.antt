-- What is read of each element of a list, one more at a time.
use Rattle.std.proofs.Common.{◌≡◌, ℕ, ◌+◌, ◌<◌, List, [], ◌∷◌, ◌++◌, map, take, drop, length, get_or, Ok, Err, refl, sym, ap, ◌∙◌}
use Rattle.std.proofs.lemmas.List.{take_more, drop_more, take-append-drop, map-append}
use Rattle.site_fields.specs.declared.fault.SiteFault.{SiteFault}
use Rattle.site_fields.specs.Kinds.{Reading, ◌>>=◌}
use Rattle.site_fields.specs.Lists.{each}

-- what stands behind a reading that gave a value
pub bind-ok : {A B : Type 0} (r : Reading A) (k : A → Reading B) (b : B) → (r >>= k) ≡ Ok b → (a : A) × (r ≡ Ok a) × (k a ≡ Ok b)
bind-ok (Ok a) k b h = (a, refl, h)
bind-ok (Err fault) k b h = cc

-- one more element
pub each-last : {A B : Type 0} (f : A → Reading B) (xs : List A) (x : A) (ys : List B) (y : B) → each f xs ≡ Ok ys → f x ≡ Ok y → each f (xs ++ x ∷ []) ≡ Ok (ys ++ y ∷ [])
unfolding each
each-last f [] x ys y h here =
    let none : [] ≡ ys = cc in
    rw (here, ← none)
each-last f (z ∷ zs) x ys y h here =
    let s = bind-ok (f z) (λ one. each f zs >>= (λ more. Ok (one ∷ more))) ys h in
    let t = bind-ok (each f zs) (λ more. Ok (s.0 ∷ more)) ys s.2 in
    let all : (s.0 ∷ t.0) ≡ ys = cc in
    rw (s.1, each-last f zs x t.0 y t.1 here) (ap (λ found. Ok (found ++ y ∷ [])) all)

-- a fault at an element
pub each-stop : {A B : Type 0} (f : A → Reading B) (xs : List A) (x : A) (rest : List A) (ys : List B) (fault : SiteFault) → each f xs ≡ Ok ys → f x ≡ Err fault → each f (xs ++ x ∷ rest) ≡ Err fault
unfolding each
each-stop f [] x rest ys fault h here = rw here
each-stop f (z ∷ zs) x rest ys fault h here =
    let s = bind-ok (f z) (λ one. each f zs >>= (λ more. Ok (one ∷ more))) ys h in
    let t = bind-ok (each f zs) (λ more. Ok (s.0 ∷ more)) ys s.2 in
    rw (s.1, each-stop f zs x rest t.0 fault t.1 here)

-- the same of a list's first elements, each seen by g
pub each-more : {A B X : Type 0} (f : A → Reading B) (g : X → A) (xs : List X) (i : ℕ) (x : X) (ys : List B) (y : B) → i < length xs → x ≡ get_or xs i x → each f (map g (take i xs)) ≡ Ok ys → f (g x) ≡ Ok y → each f (map g (take (i + 1) xs)) ≡ Ok (ys ++ y ∷ [])
each-more f g xs i x ys y within is so_far here =
    rw (take_more xs i x within, ← is, map-append g (take i xs) (x ∷ [])) (each-last f (map g (take i xs)) (g x) ys y so_far here)

pub each-fault : {A B X : Type 0} (f : A → Reading B) (g : X → A) (xs : List X) (i : ℕ) (x : X) (ys : List B) (fault : SiteFault) → i < length xs → x ≡ get_or xs i x → each f (map g (take i xs)) ≡ Ok ys → f (g x) ≡ Err fault → each f (map g xs) ≡ Err fault
each-fault f g xs i x ys fault within is so_far here =
    let parted : take i xs ++ x ∷ drop (i + 1) xs ≡ xs = ap (λ rest. take i xs ++ rest) (ap (λ y. y ∷ drop (i + 1) xs) is ∙ sym (drop_more xs i x within)) ∙ take-append-drop i xs in
    rw (← parted, map-append g (take i xs) (x ∷ drop (i + 1) xs)) (each-stop f (map g (take i xs)) (g x) (map g (drop (i + 1) xs)) ys fault so_far here)

-- the same of numbers
pub each-next : {A B : Type 0} (f : A → Reading B) (xs : List A) (i : ℕ) (d : A) (ys : List B) (y : B) → i < length xs → each f (take i xs) ≡ Ok ys → f (get_or xs i d) ≡ Ok y → each f (take (i + 1) xs) ≡ Ok (ys ++ y ∷ [])
each-next f xs i d ys y within so_far here = rw (take_more xs i d within) (each-last f (take i xs) (get_or xs i d) ys y so_far here)

pub each-refused : {A B : Type 0} (f : A → Reading B) (xs : List A) (i : ℕ) (d : A) (ys : List B) (fault : SiteFault) → i < length xs → each f (take i xs) ≡ Ok ys → f (get_or xs i d) ≡ Err fault → each f xs ≡ Err fault
each-refused f xs i d ys fault within so_far here =
    let parted : take i xs ++ get_or xs i d ∷ drop (i + 1) xs ≡ xs = ap (λ rest. take i xs ++ rest) (sym (drop_more xs i d within)) ∙ take-append-drop i xs in
    rw (← parted) (each-stop f (take i xs) (get_or xs i d) (drop (i + 1) xs) ys fault so_far here)

pub ruleset each_steps = (each-more, each-fault)

pub ruleset each_number_steps = (each-next, each-refused)

pub ruleset each_seen_steps = (each-more, each-fault, map-append)
