-- What a result says where it is known which one it is.
use Rattle.std.proofs.Common.{◌≡◌, sym, refl, Bool, true, false, true≢false, Result, Ok, Err, is_ok, is_err, OnOk}
use Rattle.std.proofs.Common.{IfOk, OnErr, if◌then◌else◌}

pub on_ok : {X E : Type 0} (r : Result X E) (P : Type 0) → is_err r ≡ false → OnOk r P → P
on_ok (Ok x) P e h = h
on_ok (Err x) P e h = absurd (true≢false e)

pub on_err : {X E : Type 0} (r : Result X E) (P : Type 0) → is_err r ≡ true → OnErr r P → P
on_err (Ok x) P e h = absurd (true≢false (sym e))
on_err (Err x) P e h = h

pub if_ok : {X E : Type 0} (r : Result X E) (P : Type 0) → is_err r ≡ false → IfOk r (λ v. P) → P
if_ok (Ok x) P e h = h
if_ok (Err x) P e h = absurd (true≢false e)

pub is_ok_there : {X E : Type 0} (r : Result X E) → is_err r ≡ false → is_ok r ≡ true
is_ok_there (Ok x) e = refl
is_ok_there (Err x) e = absurd (true≢false e)

pub chosen : {A : Type 0} (b : Bool) (x y z : A) → b ≡ true → z ≡ (if b then x else y) → z ≡ x
chosen true x y z e h = h
chosen false x y z e h = absurd (true≢false (sym e))

pub is_err_there : {X E : Type 0} (r : Result X E) → is_err r ≡ true → is_ok r ≡ false
is_err_there (Ok x) e = absurd (true≢false (sym e))
is_err_there (Err x) e = refl

pub other_chosen : {A : Type 0} (b : Bool) (x y z : A) → b ≡ false → z ≡ (if b then x else y) → z ≡ y
other_chosen true x y z e h = absurd (true≢false e)
other_chosen false x y z e h = h
