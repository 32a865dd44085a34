-- Lemmas of values that may not be there, and of results.
use Rattle.std.proofs.Common.{arith, ◌≡◌, true, false, Option, None, Some, Result, Ok, Err, is_some, IfSome, IsOk, OnOk}
use Rattle.std.proofs.Common.{refl, sym, ◌∙◌}
use Rattle.std.specs.Prelude.{OnErr, option_map}
use Rattle.std.specs.Option.{option_or}
use Rattle.std.proofs.lemmas.Option.{none-some}

-- a value isn't both there and not there
pub not_both : {A : Type 0} (o : Option A) (x : A) → o ≡ None → o ≡ Some x → ⊥
not_both o x e f = none-some x (sym e ∙ f)

-- what is there, and what isn't
pub is_there : {A : Type 0} (o : Option A) → is_some o ≡ true → (x : A) × (o ≡ Some x)
is_there None e = cc
is_there (Some x) e = (x, refl)

pub is_missing : {A : Type 0} (o : Option A) → is_some o ≡ false → o ≡ None
is_missing None e = refl
is_missing (Some x) e = cc

-- what holds where there is a value, where there is one
pub at_ok : {T E : Type 0} (r : Result T E) (P : Type 0) → IsOk r → OnOk r P → P
at_ok (Ok x) P is p = p
at_ok (Err e) P is p = cc

-- what holds anyway holds where there is an error
pub on_err : {T E : Type 0} (r : Result T E) (P : Type 0) → P → OnErr r P
on_err (Ok x) P p = tt
on_err (Err e) P p = p

-- what is made of a value that is there
pub mapped_some : {A B : Type 0} (f : A → B) (o : Option A) (y : B) → option_map f o ≡ Some y
    → (x : A) × (o ≡ Some x) × (f x ≡ y)
mapped_some f None y e = cc
mapped_some f (Some x) y e = (x, refl, cc)

pub none_from : {A : Type 0} (x : Option A) → ((a : A) → x ≡ Some a → ⊥) → x ≡ None
none_from x never = grind arith

pub IfSome_from : {A : Type 0} (x : Option A) (P : A → Type 0) → ((a : A) → x ≡ Some a → P a) → IfSome x P
IfSome_from None P each = tt
IfSome_from (Some a) P each = each a refl

pub is_some-map : {A B : Type 0} (f : A → B) (o : Option A) → is_some (option_map f o) ≡ is_some o
is_some-map f None = refl
is_some-map f (Some x) = refl

pub or_none : {A : Type 0} (a b : Option A) → b ≡ None → option_or a b ≡ a
or_none None b e = e
or_none (Some x) b e = refl
