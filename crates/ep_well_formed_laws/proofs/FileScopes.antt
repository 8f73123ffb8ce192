-- What comes to the scope of the file: names and tags behind those that it has.
use Rattle.std.proofs.Common.{◌≡◌, ℕ, Bool, List, [], ◌∷◌, ◌++◌, length, Option, Some, None, Ok, refl, sym, ap, ◌∙◌}
use Rattle.std.proofs.Common.{subst}
use Rattle.std.proofs.lemmas.List.{append-nil}
use Rattle.ep_int.proofs.Basics.{append-assoc}
use Rattle.ep_typing.specs.Env as env
use Rattle.ep_typing.specs.Env.{Env, Meaning, Scope, Signature, entry}
use Rattle.ep_elaboration.specs.Declarators.{name_in, with_name}
use Rattle.ep_elaboration.specs.Functions.{file_names, fits_main, function_declared, named_function}
use Rattle.ep_elaboration.specs.Functions.{number_of_function, numbered_function, stands_against}
use Rattle.ep_elaboration.specs.Statements.{innermost}
use Rattle.ep_well_formed_laws.proofs.Scopes.{HaveNames}
use Rattle.ep_well_formed_laws.proofs.Tests.{given, unless}

-- names and tags come to the innermost scope behind those that it has
pub record FileComes (G H : Env) : Type 0 where
  pub names : (xs : List (List ℕ × Meaning)) × ((innermost G).names ++ xs ≡ (innermost H).names)
  pub tags : (ts : List (List ℕ × ℕ)) × ((innermost G).tags ++ ts ≡ (innermost H).tags)

pub file_itself : (G : Env) → FileComes G G
file_itself G = record {
  names = ([], append-nil (innermost G).names);
  tags = ([], append-nil (innermost G).tags);
}

pub file_comes_on : (G H I : Env) → FileComes G H → FileComes H I → FileComes G I
file_comes_on G H I g h = record {
  names = (
    g.names.0 ++ h.names.0,
    sym (append-assoc (innermost G).names g.names.0 h.names.0) ∙ ap (λ xs. xs ++ h.names.0) g.names.1 ∙ h.names.1,
  );
  tags = (
    g.tags.0 ++ h.tags.0,
    sym (append-assoc (innermost G).tags g.tags.0 h.tags.0) ∙ ap (λ xs. xs ++ h.tags.0) g.tags.1 ∙ h.tags.1,
  );
}

pub file_of_names : (G H : Env) → HaveNames G.scopes H.scopes → FileComes G H
file_of_names G H n = by G.scopes H.scopes n
  where
    by : (ss us : List Scope) → HaveNames ss us → FileComes (record G { scopes = ss }) (record H { scopes = us })
    by [] [] k = record { names = ([], refl); tags = ([], refl) }
    by [] (u ∷ us) k = absurd k
    by (s ∷ ss) [] k = absurd k
    by (s ∷ ss) (u ∷ us) k = record { names = ([], append-nil s.names ∙ k.0); tags = k.2 }

file_named : (G I : Env) (t : List ℕ) (m : Meaning) → I.scopes ≡ G.scopes → FileComes G (with_name I t m)
file_named G I t m e = subst (λ (ss : List Scope). FileComes (record G { scopes = ss }) (with_name I t m)) e (by I.scopes)
  where
    by : (ss : List Scope) → FileComes (record G { scopes = ss }) (record I { scopes = name_in ss t m })
    by [] = record { names = ([], refl); tags = ([], refl) }
    by (s ∷ ss) = record { names = ((t, m) ∷ [], refl); tags = ([], append-nil s.tags) }

file_same : (G I : Env) → I.scopes ≡ G.scopes → FileComes G I
file_same G I e = subst (λ (ss : List Scope). FileComes (record G { scopes = ss }) I) e (by I.scopes)
  where
    by : (ss : List Scope) → FileComes (record G { scopes = ss }) (record I { scopes = ss })
    by [] = record { names = ([], refl); tags = ([], refl) }
    by (s ∷ ss) = record { names = ([], append-nil s.names); tags = ([], append-nil s.tags) }

-- a function that is declared brings its name, if it wasn't there
pub file_declared : (G : Env) (ds : List ℕ) (with_body : Bool) (s : Signature) (n : ℕ × Env)
    → function_declared G ds with_body s ≡ Ok n → FileComes G n.1
unfolding function_declared
file_declared G ds wb s n e =
    let x = unless (stands_against G ds wb s (entry s.name (file_names G))) 31 _ n e in
    let y = given (fits_main s) _ n 32 x.1 in
    subst (λ (m : ℕ × Env). FileComes G m.1) y.1
    (by (number_of_function G.functions s.name) (entry s.name (file_names G)))
  where
    by : (o : Option ℕ) (p : Option Meaning) → FileComes G (named_function s p (numbered_function G s o)).1
    by None None = file_named G (record G { functions = G.functions ++ s ∷ [] }) s.name (env.function (length G.functions)) refl
    by None (Some m) = file_same G (record G { functions = G.functions ++ s ∷ [] }) refl
    by (Some j) None = file_named G G s.name (env.function j) refl
    by (Some j) (Some m) = file_itself G
