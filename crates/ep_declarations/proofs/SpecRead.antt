-- What was read of the next word.
use Rattle.std.proofs.Common.{◌≡◌, ℕ, Bool, true, false, List, [], ◌∷◌, ◌++◌, Some, None, refl, sym}
use Rattle.ep_ast.specs.Token.{Tok}
use Rattle.ep_ast.specs.Declaration.{Spec, spec_of}
use Rattle.ep_ast.specs.TypeWords.{Bag, no_bag, fits, is_no_bag}
use Rattle.ep_ast.specs.DeclarationGrammar.{Context, spec_joined, specs_joined}
use Rattle.ep_ast.specs.Depth.{in_spec}
use Rattle.ep_ast.specs.Reading.{Takes}
use Rattle.ep_type_names.specs.Words.{bag}
use Rattle.ep_reading.specs.Measured.{Shows}
use Rattle.ep_declarations.specs.declared.words.OneMore.{OneMore}
use Rattle.ep_reading.specs.Answer.{IsTaken}
use Rattle.ep_declarations.specs.SpecAhead.{Ahead, ShowsAhead, are_none}
use Rattle.ep_declarations.specs.Answer.{is_body}
use Rattle.ep_declarations.proofs.SpecLemmas.{fits_is, SpecsSo, specs_step}

module _ (N : List ℕ → Bool) where
  pub none_read : {k : Context} {b : Bag} {ys us : List Tok} → IsTaken (ShowsAhead b) (Ahead N k b) ys None us
      → Takes (Ahead N k b) ys None us
  none_read t = rw t.shows at t.takes

  -- a word, and the words with it
  pub record Word (k : Context) (b : Bag) (ys us : List Tok) (o : OneMore) : Type 0 where
    pub word : Spec
    pub takes : Takes (Ahead N k b) ys (Some word) us
    pub shows : Shows spec_of in_spec o.tree word
    pub kind : o.is_body ≡ is_body word
    pub words : bag o.bag ≡ spec_joined b word
    pub fit : fits (spec_joined b word) ≡ true

  pub some_read : {k : Context} {b : Bag} {ys us : List Tok} {o : OneMore}
      → IsTaken (ShowsAhead b) (Ahead N k b) ys (Some o) us → Word k b ys us o
  some_read t =
      record {
        word = t.shows.0;
        takes = rw t.shows.1 at t.takes;
        shows = t.shows.2;
        kind = t.shows.3;
        words = t.shows.4;
        fit = t.shows.5;
      }

  step_at : (k : Context) (xs : List Tok) (front : List Spec) (b c : Bag) (ys us : List Tok) (s : Spec)
      → c ≡ spec_joined b s → SpecsSo N k xs front b ys → Takes (Ahead N k b) ys (Some s) us
      → SpecsSo N k xs (front ++ s ∷ []) c us
  step_at k xs front b c ys us s e o t = rw e (specs_step N k xs front b ys us s o t)

  pub word_step : (k : Context) (xs : List Tok) (front : List Spec) (b : Bag) (ys us : List Tok) (o : OneMore)
      → SpecsSo N k xs front b ys → (w : Word k b ys us o)
      → SpecsSo N k xs (front ++ w.word ∷ []) (bag o.bag) us × (fits (bag o.bag) ≡ true)
  word_step k xs front b ys us o s w = (
    step_at k xs front b (bag o.bag) ys us w.word w.words s w.takes,
    fits_is (bag o.bag) (spec_joined b w.word) (sym w.words) w.fit,
  )

none_bag : (ss : List Spec) (b : Bag) → are_none ss ≡ true → b ≡ specs_joined no_bag ss → is_no_bag b ≡ true
none_bag [] b h e = rw e refl
none_bag (s ∷ ss) b h e = absurd cc

-- a word that counts was read, so it isn't the first that comes
pub not_first : (f : Bool) (ss : List Spec) (b : Bag) → f ≡ are_none ss → b ≡ specs_joined no_bag ss
    → is_no_bag b ≡ false → f ≡ false
not_first false ss b h e n = refl
not_first true ss b h e n = let g = none_bag ss b (sym h) e in absurd cc

pub more_than_none : (ss : List Spec) (s : Spec) → false ≡ are_none (ss ++ s ∷ [])
more_than_none [] s = refl
more_than_none (t ∷ ss) s = refl
