-- Each piece of a source is what is read.
use Rattle.std.proofs.Common.{◌≡◌, ℕ, false, ◌==◌, List, [], ◌∷◌, Some, None, Ok, refl, ap, ◌∙◌, subst, inl, inr, ◌⊎◌}
use Rattle.ep_ast.specs.declared.orders.NamedOrder.TheVariants.{Little, Big}
use Rattle.ep_ast.specs.Token.{Tok}
use Rattle.ep_ast.specs.Lexeme.{Gap}
use Rattle.ep_ast.specs.Cut.{Position, Open, outside, first_arm, second_arm, is_outside, Piece, line_end, word, own_name}
use Rattle.ep_ast.specs.Cut.{defined, literal, sign, include, define, condition, otherwise, end_if, none, more, after}
use Rattle.ep_ast.specs.Cut.{headers}
use Rattle.ep_lexer.specs.Step.{step, directive_at, define_at, include_at, condition_at, header_at, header_found}
use Rattle.ep_lexer.proofs.Cases.{none_some, no_number}
use Rattle.ep_lexer.proofs.Gaps.{Stops, stays, gap_skips}
use Rattle.ep_lexer.proofs.NextLemmas.{next_read}

pub inside_cases : (o : Open) → is_outside o ≡ false → ((l : ℕ) × (o ≡ first_arm l)) ⊎ ((l : ℕ) × (o ≡ second_arm l))
inside_cases outside h = absurd cc
inside_cases (first_arm l) h = inl (l, refl)
inside_cases (second_arm l) h = inr (l, refl)

header_apart : (b c : ℕ) (bs es : List ℕ) → after headers (c ∷ bs) ≡ None → after headers (b ∷ bs) ≡ Some es
    → b == c ≡ false
header_apart b c bs es h e = no_number b c (λ k. let f : after headers (c ∷ bs) ≡ Some es =
    subst (λ (x : ℕ). after headers (x ∷ bs) ≡ Some es) k e in none_some h f)

-- a header name begins with no blank and no comment
pub header_stops : (bs es : List ℕ) → after headers bs ≡ Some es → Stops bs
header_stops [] es e = tt
header_stops (b ∷ bs) es e =
    let t = header_apart b 47 bs es refl e in (
      rw (header_apart b 32 bs es refl e, header_apart b 9 bs es refl e, header_apart b 13 bs es refl e) refl,
      rw t refl,
      rw t refl,
    )

pub header_read : {m n : ℕ} {cs ds es : List ℕ} (h : ℕ) → Gap m cs n ds → after headers ds ≡ Some es
    → include_at h m cs ≡ header_found h n ds (Some es)
unfolding include_at
header_read {m} {n} {cs} {ds} {es} h g e =
    ap (header_at h) (gap_skips g ∙ stays n ds (header_stops ds es e)) ∙ ap (header_found h n ds) e

pub piece_read : {p q : Position} {bs rest : List ℕ} {ts : List Tok} → Piece p bs ts q rest
    → step p bs ≡ Ok (Some (ts, q, rest))
unfolding step directive_at define_at condition_at
piece_read (line_end m b n) = rw (next_read n) refl
piece_read (word m n t x e) = rw (next_read x, e) refl
piece_read (own_name m t x e) = rw (next_read x, e) refl
piece_read (defined m t c x e) = rw (next_read x, e) refl
piece_read (literal m c x) = rw (next_read x) refl
piece_read (sign m n x) = rw (next_read x) refl
piece_read (include m n k f o (more {m = l} {cs = ds} x (more y none)) g h z) =
    rw (next_read x, f, next_read y, o, header_read l g h, next_read z) refl
piece_read (define m t v c f o (more x (more y (more z (more u (more w none))))) d e) =
    rw (next_read x, f, next_read y, o, next_read z, d, next_read u, e, next_read w) refl
piece_read (condition l m Little f o a b x (more y (more z (more u (more v (more w none)))))) =
    rw (next_read x, f, next_read y, o, next_read z, a, next_read u, next_read v, b, next_read w) refl
piece_read (condition l m Big f o a b x (more y (more z (more u (more v (more w none)))))) =
    rw (next_read x, f, next_read y, o, next_read z, a, next_read u, next_read v, b, next_read w) refl
piece_read (otherwise l m from f o x (more y (more z none))) = rw (next_read x, f, next_read y, o, next_read z) refl
piece_read {p} (end_if l m f o x (more y (more z none))) = elim (inside_cases p.open_arm o) [
  | inl k ↦ rw (next_read x, f, next_read y, k.1, next_read z) refl
  | inr k ↦ rw (next_read x, f, next_read y, k.1, next_read z) refl
]
