-- Forms that are held, alone or by cells, while a state changes one time after another.
use Rattle.std.proofs.Common.{◌≡◌, List, [], ◌∷◌, map, refl, sym, ◌∙◌, ap}
use Rattle.ep_cell_ranges.specs.Ranges.{Form, Reform, with_form}

-- what holds a form
pub record Holds {A : Type 0} (W : Reform → A → A) : Type 0 where
  pub none : (x : A) → W (λ f. f) x ≡ x
  pub both : (f g : Reform) (x : A) → W (λ z. f (g z)) x ≡ W f (W g x)

-- a form itself
abbrev pub alone : Reform → Form → Form
alone g f = g f

pub alone_holds : Holds alone
alone_holds = record { none = λ x. refl; both = λ f g x. refl }

pub cell_holds : {N : Type 0} → Holds (with_form {N = N})
cell_holds = record { none = λ x. refl; both = λ f g x. refl }

module _ {A : Type 0} (W : Reform → A → A) (w : Holds W) where
  all_none : (xs : List A) → map (W (λ f. f)) xs ≡ xs
  all_none [] = refl
  all_none (x ∷ xs) = ap (λ y. y ∷ map (W (λ f. f)) xs) (w.none x) ∙ ap (λ l. x ∷ l) (all_none xs)

  all_both : (f g : Reform) (xs : List A) → map (W (λ z. f (g z))) xs ≡ map (W f) (map (W g) xs)
  all_both f g [] = refl
  all_both f g (x ∷ xs) =
      ap (λ y. y ∷ map (W (λ z. f (g z))) xs) (w.both f g x) ∙ ap (λ l. W f (W g x) ∷ l) (all_both f g xs)

  -- none goes
  pub stay : (h : Reform) (us : List A) → h ≡ (λ f. f) → us ≡ map (W h) us
  stay h us e = sym (all_none us) ∙ sym (ap (λ z. map (W z) us) e)

  -- two changes
  pub go_twice : (f g h : Reform) (us vs ws : List A) → h ≡ (λ z. f (g z)) → vs ≡ map (W g) us → ws ≡ map (W f) vs
      → ws ≡ map (W h) us
  go_twice f g h us vs ws e k j =
      j ∙ ap (map (W f)) k ∙ sym (all_both f g us) ∙ sym (ap (λ z. map (W z) us) e)

  -- a turn
  pub go_on : (f g h : Reform) (us vs all : List A) → h ≡ (λ z. f (g z)) → vs ≡ map (W g) us → map (W h) us ≡ all
      → map (W f) vs ≡ all
  go_on f g h us vs all e k j =
      ap (map (W f)) k ∙ sym (all_both f g us) ∙ sym (ap (λ z. map (W z) us) e) ∙ j

  -- after the last turn
  pub go_ends : (h : Reform) (us all : List A) → h ≡ (λ f. f) → map (W h) us ≡ all → us ≡ all
  go_ends h us all e j = stay h us e ∙ j
