-- Cells go where a test holds, and forms that mention them.
use Rattle.std.proofs.Common.{◌≡◌, ℕ, Bool, true, false, ◌||◌, cond, List, [], ◌∷◌, ◌++◌, map, Some, None, refl, sym}
use Rattle.ep_cells.proofs.Reshare.{own_by}
use Rattle.std.proofs.Common.{◌∙◌, ap, subst}
use Rattle.ep_int.specs.declared.types.Model.{Model}
use Rattle.ep_int.specs.declared.types.Scalar.{Scalar}
use Rattle.ep_int.specs.declared.types.Scalar.TheVariants.{Int}
use Rattle.ep_bitslice.specs.declared.cell.CellName.{CellName}
use Rattle.ep_bitslice.specs.declared.cell.Side.{Side}
use Rattle.ep_cells.specs.declared.cell.Cell.{Cell}
use Rattle.ep_cells.specs.Cells.{IsNamed, IsIn, first, later, each_becomes}
use Rattle.ep_cells.specs.Forms.{Fate, reformed}
use Rattle.ep_cells.specs.States.{AreCells}
use Rattle.ep_cells.proofs.Lists.{each_in}
use Rattle.ep_cells.proofs.Places.{within_itself}
use Rattle.ep_reads.proofs.Steps.{IsSided}
use Rattle.ep_reads.proofs.Same.{GoesTo}
use Rattle.ep_reads.proofs.Parted.{stays_to}
use Rattle.ep_reads.specs.Single.{Kinds, left_without, fate_without, without, either_kind}
use Rattle.ep_reads.proofs.Composed.{then_fate, gone_on, changed_twice, same_changes, reformed_same}
use Rattle.ep_reads.proofs.Composed.{same_step_cells}

-- ---- one after the other

drop_twice : {N : Type 0} (P Q : Kinds) (x : Cell N)
    → each_becomes (left_without Q) (left_without P x) ≡ left_without (either_kind P Q) x
drop_twice {N = N} P Q x = by (P x.side x.block x.offset x.what) (Q x.side x.block x.offset x.what) refl
  where
    by : (p q : Bool) → Q x.side x.block x.offset x.what ≡ q
        → each_becomes (left_without Q) (cond p [] (x ∷ [])) ≡ cond (p || q) [] (x ∷ [])
    by true q f = refl
    by false true f = ap (λ b. cond b [] (x ∷ []) ++ []) f
    by false false f = ap (λ b. cond b [] (x ∷ []) ++ []) f

fate_twice : (P Q : Kinds) (n : CellName)
    → gone_on (fate_without Q) (fate_without P n) ≡ fate_without (either_kind P Q) n
fate_twice P Q n = by (P n.side n.block n.offset (Int n.t)) (Q n.side n.block n.offset (Int n.t)) refl
  where
    by : (p q : Bool) → Q n.side n.block n.offset (Int n.t) ≡ q
        → gone_on (fate_without Q) (cond p None (Some n)) ≡ cond (p || q) None (Some n)
    by true q f = refl
    by false true f = ap (λ b. cond b None (Some n)) f
    by false false f = ap (λ b. cond b None (Some n)) f

blind : {N : Type 0} (Q : Kinds) (f : Fate) (c : Cell N)
    → left_without Q (reformed f c) ≡ map (reformed f) (left_without Q c)
blind {N = N} Q f c = by (Q c.side c.block c.offset c.what)
  where
    by : (b : Bool) → (let l : List (Cell N) = reformed f c ∷ [] in cond b [] l) ≡ map (reformed f) (cond b [] (c ∷ []))
    by true = refl
    by false = refl

pub without_twice : {N : Type 0} (P Q : Kinds) (cs : List (Cell N))
    → without Q (without P cs) ≡ without (either_kind P Q) cs
without_twice P Q cs =
    changed_twice (left_without P) (left_without Q) (fate_without P) (fate_without Q) cs (blind Q (fate_without P))
    ∙ same_changes (λ c. each_becomes (left_without Q) (left_without P c)) (left_without (either_kind P Q))
    (then_fate (fate_without P) (fate_without Q)) (fate_without (either_kind P Q)) cs (λ x i. drop_twice P Q x)
    (λ x y i j. ap (λ f. reformed f y) (λ m n. fate_twice P Q n m))

-- ---- the same where tests say the same of cells that are there

pub drop_form : {N : Type 0} (x y : Cell N) (b : Bool) → IsIn y (cond b [] (x ∷ [])) → y.form ≡ x.form
drop_form x y true h = elim h [ ]
drop_form x _ false (first _) = refl
drop_form x y false (later _ _ h) = elim h [ ]

abbrev pub AgreeOn : {N : Type 0} → Kinds → Kinds → List (Cell N) → Type 0
AgreeOn {N = N} P Q cs = (x : Cell N) → IsIn x cs → P x.side x.block x.offset x.what ≡ Q x.side x.block x.offset x.what

pub kind_named : {N : Type 0} (R : Kinds) (n : CellName) (x : Cell N) → IsNamed n x
    → R x.side x.block x.offset x.what ≡ R n.side n.block n.offset (Int n.t)
kind_named R n x i =
    ap (λ (s : Side). R s x.block x.offset x.what) i.side
    ∙ ap (λ (b : ℕ). R n.side b x.offset x.what) i.block
    ∙ ap (λ (q : ℕ). R n.side n.block q x.what) i.offset
    ∙ ap (λ (w : Scalar). R n.side n.block n.offset w) i.what

pub without_same : {N : Type 0} (d : Model) (P Q : Kinds) (cs : List (Cell N)) → AreCells d cs → AgreeOn P Q cs
    → without P cs ≡ without Q cs
without_same d P Q cs a h =
    same_changes (left_without P) (left_without Q) (fate_without P) (fate_without Q) cs
    (λ x i. ap (λ b. cond b [] (x ∷ [])) (h x i))
    (λ x y i j. reformed_same (fate_without P) (fate_without Q) cs x y (a.forms x i)
    (drop_form x y (Q x.side x.block x.offset x.what) j)
    (λ n t. ap (λ b. cond b None (Some n))
    (sym (kind_named P n t.cell t.named) ∙ h t.cell t.is_in ∙ kind_named Q n t.cell t.named)))

-- ---- what is left is a state's

drop_sided : {N : Type 0} (x y : Cell N) (t : Bool) → IsIn y (cond t [] (x ∷ [])) → IsSided x y
drop_sided x y true h = elim h [ ]
drop_sided x _ false (first _) = record { side = x.side; is = refl; within = within_itself x.side }
drop_sided x y false (later _ _ h) = elim h [ ]

drop_goes : {N : Type 0} (P : Kinds) (cs : List (Cell N)) (z : Cell N) (c e : CellName) (t : Bool)
    → P c.side c.block c.offset (Int c.t) ≡ t → IsIn z cs → IsNamed c z → cond t None (Some c) ≡ Some e
    → GoesTo z (each_becomes (left_without P) cs) e
drop_goes P cs z c e true h i n f = absurd (cc)
drop_goes P cs z c e false h i n f =
    stays_to z c e (each_becomes (left_without P) cs) n (let q : Some c ≡ Some e = f in cc)
    (each_in (left_without P) z z cs i (subst (λ b. IsIn z (cond b [] (z ∷ []))) (sym (kind_named P c z n ∙ h))
    (first [])))

pub without_cells : {N : Type 0} (d : Model) (P : Kinds) (cs : List (Cell N)) → AreCells d cs → AreCells d
    (without P cs)
without_cells d P cs a =
    same_step_cells d cs (left_without P) (fate_without P) a
    (record {
      each = λ y h. elim h [ ];
      pairs = tt;
      forms = λ y h. elim h [ ];
      sided = λ x y i h. drop_sided x y (P x.side x.block x.offset x.what) h;
      own = λ x i. own_by d x (P x.side x.block x.offset x.what);
      away = λ c x y h i j. elim h [ ];
      goes = λ z c e i n f. drop_goes P cs z c e (P c.side c.block c.offset (Int c.t)) refl i n f;
    })
