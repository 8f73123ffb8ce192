-- What is read is a front of the tokens, and the same front is read whatever follows it.
use Rattle.std.proofs.Common.{◌≡◌, ℕ, Bool, false, List, [], ◌∷◌, ◌++◌, refl, sym, ap, ◌∙◌, append_assoc}
use Rattle.ep_ast.specs.Token.{Tok, word, name, number, mark, if_little, if_big, other, end_if}
use Rattle.ep_ast.specs.Expression.{Expr, TypeName, TypeWord}
use Rattle.ep_ast.specs.TypeWords.{OneWord, plain_word, type_name, tag, Words, no_words, more_words, Consts, no_consts}
use Rattle.ep_ast.specs.TypeWords.{one_const, Stars, no_stars, one_star, TypeNamed, closed, begins_type}
use Rattle.ep_ast.specs.Grammar.{Rule, Suffix, Derives, assigns, assigns_not, chooses, chooses_not, left, tighter}
use Rattle.ep_ast.specs.Grammar.{operand, casts, casts_not, steps, prefixed, sized, sized_type, unary_not, suffixed}
use Rattle.ep_ast.specs.Grammar.{suffixed_not, names, numbers, parens, IsSuffix, indexed, called, member, pointed}
use Rattle.ep_ast.specs.Grammar.{incremented, decremented, Arguments, no_arguments, some_arguments, Listed, last, next}

-- a front that stays one whatever follows it
pub record Front (P : List Tok → List Tok → Type 0) (xs ys : List Tok) : Type 0 where
  pub front : List Tok
  pub is : xs ≡ front ++ ys
  pub again : (zs : List Tok) → P (front ++ zs) zs

-- two fronts, one after the other, or with a token between them
after : (f g : List Tok) (xs ys zs : List Tok) → xs ≡ f ++ ys → ys ≡ g ++ zs → xs ≡ (f ++ g) ++ zs
after f g xs ys zs e h = e ∙ ap (λ (ts : List Tok). f ++ ts) h ∙ sym (append_assoc f g zs)

joined : (f g : List Tok) (t : Tok) (xs ys zs : List Tok) → xs ≡ f ++ t ∷ ys → ys ≡ g ++ zs → xs ≡ (f ++ t ∷ g) ++ zs
joined f g t xs ys zs e h = e ∙ ap (λ (ts : List Tok). f ++ t ∷ ts) h ∙ sym (append_assoc f (t ∷ g) zs)

-- ---- names of types

consts_front : {xs ys : List Tok} {n : ℕ} → Consts xs ys n → Front (λ us vs. Consts us vs n) xs ys
consts_front no_consts = record { front = []; is = refl; again = λ zs. no_consts }
consts_front (one_const {l = l} {c = c} h d) = let f = consts_front d in
    record {
      front = word l c ∷ f.front;
      is = ap (λ (ts : List Tok). word l c ∷ ts) f.is;
      again = λ zs. one_const h (f.again zs);
    }

stars_front : {xs ys : List Tok} {ns : List ℕ} → Stars xs ys ns → Front (λ us vs. Stars us vs ns) xs ys
stars_front no_stars = record { front = []; is = refl; again = λ zs. no_stars }
stars_front (one_star {l = l} {c = c} {xs = xs} {ys = ys} {zs = zs} h d e) = let f = consts_front d in let g =
    stars_front e in record {
      front = mark l c ∷ (f.front ++ g.front);
      is = ap (λ (ts : List Tok). mark l c ∷ ts) (after f.front g.front xs ys zs f.is g.is);
      again = λ ws. rw append_assoc (one_star h (f.again (g.front ++ ws)) (g.again ws));
    }

module _ (N : List ℕ → Bool) where
  word_front : {xs ys : List Tok} {w : TypeWord} → OneWord N xs ys w → Front (λ us vs. OneWord N us vs w) xs ys
  word_front (plain_word {l = l} {c = c} h) = record { front = word l c ∷ []; is = refl; again = λ zs. plain_word h }
  word_front (type_name {l = l} {text = text} h) = record {
    front = name l text ∷ [];
    is = refl;
    again = λ zs. type_name h;
  }
  word_front (tag {l = l} {c = c} {m = m} {text = text} h) =
      record { front = word l c ∷ name m text ∷ []; is = refl; again = λ zs. tag h }

  words_front : {xs ys : List Tok} {ws : List TypeWord} → Words N xs ys ws → Front (λ us vs. Words N us vs ws) xs ys
  words_front no_words = record { front = []; is = refl; again = λ zs. no_words }
  words_front (more_words {xs = xs} {ys = ys} {zs = zs} d e) = let f = word_front d in let g = words_front e in record {
    front = f.front ++ g.front;
    is = after f.front g.front xs ys zs f.is g.is;
    again = λ ws. rw append_assoc (more_words (f.again (g.front ++ ws)) (g.again ws));
  }

  over_still : (g : List Tok) (m d : ℕ) (us vs : List Tok) → begins_type N (g ++ mark m d ∷ us) ≡ false
      → begins_type N (g ++ mark m d ∷ vs) ≡ false
  over_still [] m d us vs h = refl
  over_still (word l c ∷ ts) m d us vs h = h
  over_still (name l t ∷ ts) m d us vs h = h
  over_still (number l n ∷ ts) m d us vs h = h
  over_still (mark l c ∷ ts) m d us vs h = h
  over_still (if_little l ∷ ts) m d us vs h = h
  over_still (if_big l ∷ ts) m d us vs h = h
  over_still (other l ∷ ts) m d us vs h = h
  over_still (end_if l ∷ ts) m d us vs h = h

  named_front : {xs ys : List Tok} {t : TypeName} → TypeNamed N xs ys t → Front (λ us vs. TypeNamed N us vs t) xs ys
  named_front (closed {m = m} {d = d} {xs = xs} {ys = ys} {zs = zs} h a s) =
      let f = words_front a.words in
      let g = stars_front s.stars in
      record {
        front = f.front ++ (g.front ++ mark m d ∷ []);
        is = after f.front (g.front ++ mark m d ∷ []) xs ys zs f.is (joined g.front [] (mark m d) ys zs zs g.is refl);
        again = λ ws. rw (append_assoc, append_assoc) (closed h
            (record {
              words = f.again (g.front ++ mark m d ∷ ws);
              named_type = a.named_type;
              over = over_still g.front m d zs ws (rw g.is at a.over);
            })
            (record { stars = g.again (mark m d ∷ ws); over = s.over }));
      }

  -- ---- expressions

  mutual
    pub front_of : {r : Rule} {xs ys : List Tok} {a : Expr} → Derives N r xs ys a
        → Front (λ us vs. Derives N r us vs a) xs ys
    front_of (assigns {l = l} {c = c} {xs = xs} {ys = ys} {zs = zs} h d e) = let f = front_of d in let g = front_of e in
        record {
          front = f.front ++ mark l c ∷ g.front;
          is = joined f.front g.front (mark l c) xs ys zs f.is g.is;
          again = λ ws. rw append_assoc (assigns h (f.again (mark l c ∷ (g.front ++ ws))) (g.again ws));
        }
    front_of (assigns_not d) = let f = front_of d in record {
      front = f.front;
      is = f.is;
      again = λ zs. assigns_not (f.again zs);
    }
    front_of (chooses {l = l} {c = c} {m = m} {d = d} {xs = xs} {ys = ys} {zs = zs} {ws = ws} h k p q r) = let f =
        front_of p in let g = front_of q in let j = front_of r in
        record {
          front = f.front ++ mark l c ∷ (g.front ++ mark m d ∷ j.front);
          is = joined f.front (g.front ++ mark m d ∷ j.front) (mark l c) xs ys ws f.is
              (joined g.front j.front (mark m d) ys zs ws g.is j.is);
          again = λ vs. rw (append_assoc, append_assoc)
              (chooses h k (f.again (mark l c ∷ (g.front ++ mark m d ∷ (j.front ++ vs))))
              (g.again (mark m d ∷ (j.front ++ vs))) (j.again vs));
        }
    front_of (chooses_not d) = let f = front_of d in record {
      front = f.front;
      is = f.is;
      again = λ zs. chooses_not (f.again zs);
    }
    front_of (left {l = l} {c = c} {xs = xs} {ys = ys} {zs = zs} h p d e) = let f = front_of d in let g = front_of e in
        record {
          front = f.front ++ mark l c ∷ g.front;
          is = joined f.front g.front (mark l c) xs ys zs f.is g.is;
          again = λ ws. rw append_assoc (left h p (f.again (mark l c ∷ (g.front ++ ws))) (g.again ws));
        }
    front_of (tighter h d) = let f = front_of d in record {
      front = f.front;
      is = f.is;
      again = λ zs. tighter h (f.again zs);
    }
    front_of (operand h d) = let f = front_of d in record {
      front = f.front;
      is = f.is;
      again = λ zs. operand h (f.again zs);
    }
    front_of (casts {l = l} {c = c} {xs = xs} {ys = ys} {zs = zs} h t d) = let f = named_front t in let g =
        front_of d in
        record {
          front = mark l c ∷ (f.front ++ g.front);
          is = ap (λ (ts : List Tok). mark l c ∷ ts) (after f.front g.front xs ys zs f.is g.is);
          again = λ ws. rw append_assoc (casts h (f.again (g.front ++ ws)) (g.again ws));
        }
    front_of (casts_not d) = let f = front_of d in record {
      front = f.front;
      is = f.is;
      again = λ zs. casts_not (f.again zs);
    }
    front_of (steps {l = l} {c = c} h d) = let f = front_of d in
        record {
          front = mark l c ∷ f.front;
          is = ap (λ (ts : List Tok). mark l c ∷ ts) f.is;
          again = λ zs. steps h (f.again zs);
        }
    front_of (prefixed {l = l} {c = c} h d) = let f = front_of d in
        record {
          front = mark l c ∷ f.front;
          is = ap (λ (ts : List Tok). mark l c ∷ ts) f.is;
          again = λ zs. prefixed h (f.again zs);
        }
    front_of (sized {l = l} {w = w} h d) = let f = front_of d in
        record {
          front = word l w ∷ f.front;
          is = ap (λ (ts : List Tok). word l w ∷ ts) f.is;
          again = λ zs. sized h (f.again zs);
        }
    front_of (sized_type {l = l} {w = w} {m = m} {c = c} h k t) = let f = named_front t in
        record {
          front = word l w ∷ mark m c ∷ f.front;
          is = ap (λ (ts : List Tok). word l w ∷ mark m c ∷ ts) f.is;
          again = λ zs. sized_type h k (f.again zs);
        }
    front_of (unary_not d) = let f = front_of d in record {
      front = f.front;
      is = f.is;
      again = λ zs. unary_not (f.again zs);
    }
    front_of (suffixed {xs = xs} {ys = ys} {zs = zs} d s) = let f = front_of d in let g = behind_front s in
        record {
          front = f.front ++ g.front;
          is = after f.front g.front xs ys zs f.is g.is;
          again = λ ws. rw append_assoc (suffixed (f.again (g.front ++ ws)) (g.again ws));
        }
    front_of (suffixed_not d) = let f = front_of d in record {
      front = f.front;
      is = f.is;
      again = λ zs. suffixed_not (f.again zs);
    }
    front_of (names {l = l} {text = text} h) = record { front = name l text ∷ []; is = refl; again = λ zs. names h }
    front_of (numbers {l = l} {n = n}) = record { front = number l n ∷ []; is = refl; again = λ zs. numbers }
    front_of (parens {l = l} {c = c} {m = m} {d = d} {xs = xs} {ys = ys} h k e) = let f = front_of e in
        record {
          front = mark l c ∷ (f.front ++ mark m d ∷ []);
          is = ap (λ (ts : List Tok). mark l c ∷ ts) (joined f.front [] (mark m d) xs ys ys f.is refl);
          again = λ zs. rw append_assoc (parens h k (f.again (mark m d ∷ zs)));
        }

    behind_front : {xs ys : List Tok} {s : Suffix} → IsSuffix N xs ys s → Front (λ us vs. IsSuffix N us vs s) xs ys
    behind_front (indexed {l = l} {c = c} {m = m} {d = d} {xs = xs} {ys = ys} h k e) = let f = front_of e in
        record {
          front = mark l c ∷ (f.front ++ mark m d ∷ []);
          is = ap (λ (ts : List Tok). mark l c ∷ ts) (joined f.front [] (mark m d) xs ys ys f.is refl);
          again = λ zs. rw append_assoc (indexed h k (f.again (mark m d ∷ zs)));
        }
    behind_front (called {l = l} {c = c} h d) = let f = arguments_front d in
        record {
          front = mark l c ∷ f.front;
          is = ap (λ (ts : List Tok). mark l c ∷ ts) f.is;
          again = λ zs. called h (f.again zs);
        }
    behind_front (member {l = l} {c = c} {m = m} {text = text} h) =
        record { front = mark l c ∷ name m text ∷ []; is = refl; again = λ zs. member h }
    behind_front (pointed {l = l} {c = c} {m = m} {text = text} h) =
        record { front = mark l c ∷ name m text ∷ []; is = refl; again = λ zs. pointed h }
    behind_front (incremented {l = l} {c = c} h) = record {
      front = mark l c ∷ [];
      is = refl;
      again = λ zs. incremented h;
    }
    behind_front (decremented {l = l} {c = c} h) = record {
      front = mark l c ∷ [];
      is = refl;
      again = λ zs. decremented h;
    }

    arguments_front : {xs ys : List Tok} {bs : List Expr} → Arguments N xs ys bs
        → Front (λ us vs. Arguments N us vs bs) xs ys
    arguments_front (no_arguments {m = m} {d = d} h) =
        record { front = mark m d ∷ []; is = refl; again = λ zs. no_arguments h }
    arguments_front (some_arguments d) = let f = list_front d in
        record { front = f.front; is = f.is; again = λ zs. some_arguments (f.again zs) }

    list_front : {xs ys : List Tok} {bs : List Expr} → Listed N xs ys bs → Front (λ us vs. Listed N us vs bs) xs ys
    list_front (last {m = m} {d = d} {xs = xs} {ys = ys} h e) = let f = front_of e in
        record {
          front = f.front ++ mark m d ∷ [];
          is = joined f.front [] (mark m d) xs ys ys f.is refl;
          again = λ zs. rw append_assoc (last h (f.again (mark m d ∷ zs)));
        }
    list_front (next {m = m} {d = d} {xs = xs} {ys = ys} {zs = zs} h e g) = let f = front_of e in let k =
        list_front g in
        record {
          front = f.front ++ mark m d ∷ k.front;
          is = joined f.front k.front (mark m d) xs ys zs f.is k.is;
          again = λ ws. rw append_assoc (next h (f.again (mark m d ∷ (k.front ++ ws))) (k.again ws));
        }
