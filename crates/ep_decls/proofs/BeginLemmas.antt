-- With which tokens the words of a declaration begin.
use Rattle.std.proofs.Common.{◌≡◌, ℕ, Bool, true, false, List, ◌∷◌}
use Rattle.std.proofs.lemmas.Bool.{both_ways}
use Rattle.std.proofs.lemmas.Bool.{and_from, or_left, or_right}
use Rattle.std.specs.Prelude.{◌||◌, ◌&&◌}
use Rattle.ep_ast.specs.Token.{Tok, word, name, mark}
use Rattle.ep_ast.specs.Expression.{TypeWord}
use Rattle.ep_ast.specs.Declaration.{Spec, Aggregate, Head}
use Rattle.ep_ast.specs.Statement.{Function, Item}
use Rattle.ep_ast.specs.TypeWords.{is_type_word, is_tag_word, OneWord, plain_word, type_name, tag}
use Rattle.ep_ast.specs.DeclarationGrammar.{Context, at_file_scope, has_storage, is_storage_word, begins_spec, OneSpec}
use Rattle.ep_ast.specs.DeclarationGrammar.{type_word, storage, with_members, no_specs, more_specs, Specified}
use Rattle.ep_ast.specs.DeclarationGrammar.{specified, Aggregated, tagged, untagged, variables, Headed, head}
use Rattle.ep_ast.specs.ProgramGrammar.{Defines, function}
use Rattle.ep_decls.specs.Answer.{Worded, defines, prototype, declares, completes}

module _ (N : List ℕ → Bool) where
  tag_begins : (k : Context) (l c : ℕ) (xs : List Tok) → is_tag_word c ≡ true → begins_spec N k (word l c ∷ xs) ≡ true
  tag_begins k l c xs h = or_left (is_type_word c || is_tag_word c) (has_storage k && is_storage_word c)
      (or_right (is_type_word c) (is_tag_word c) h)

  word_begins : (k : Context) {xs ys : List Tok} {w : TypeWord} → OneWord N xs ys w → begins_spec N k xs ≡ true
  word_begins k (plain_word {c = c} h) = or_left (is_type_word c || is_tag_word c) (has_storage k && is_storage_word c)
      (or_left (is_type_word c) (is_tag_word c) h)
  word_begins k (type_name h) = h
  word_begins k (tag {l = l} {c = c} {m = m} {text = text} {xs = xs} h) = tag_begins k l c (name m text ∷ xs) h

  aggregate_begins : (k : Context) {xs ys : List Tok} {a : Aggregate} → Aggregated N xs ys a → begins_spec N k xs ≡ true
  aggregate_begins k (tagged {l = l} {c = c} {m = m} {n = n} {d = d} {text = text} {xs = xs} h e ms) =
      tag_begins k l c (name m text ∷ mark n d ∷ xs) h
  aggregate_begins k (untagged {l = l} {c = c} {n = n} {d = d} {xs = xs} h e ms) = tag_begins k l c (mark n d ∷ xs) h

  spec_begins : (k : Context) {xs ys : List Tok} {s : Spec} → OneSpec N k xs ys s → begins_spec N k xs ≡ true
  spec_begins k (type_word d n) = word_begins k d
  spec_begins k (storage {c = c} h w) = or_right (is_type_word c || is_tag_word c) (has_storage k && is_storage_word c)
      (and_from (has_storage k) (is_storage_word c) h w)
  spec_begins k (with_members h a) = aggregate_begins k a

  pub specified_not : {k : Context} {xs ys : List Tok} {ss : List Spec} → begins_spec N k xs ≡ false
      → Specified N k xs ys ss → ⊥
  specified_not h (specified n (no_specs b)) = absurd cc
  specified_not {k = k} h (specified n (more_specs {xs = xs} d r)) = both_ways (begins_spec N k xs) h (spec_begins k d)

  pub headed_not : {xs ys : List Tok} {h : Head} → begins_spec N at_file_scope xs ≡ false → Headed N xs ys h → ⊥
  headed_not b (head p c d s q) = specified_not b d

  pub defines_not : {xs ys : List Tok} {f : Function} → begins_spec N at_file_scope xs ≡ false → Defines N xs ys f → ⊥
  defines_not b (function n d e) = headed_not b d

  pub worded_not : {xs ys : List Tok} {i : Item} → begins_spec N at_file_scope xs ≡ false → Worded N xs ys i → ⊥
  worded_not b (defines d) = defines_not b d
  worded_not b (prototype c d) = headed_not b d
  worded_not b (declares (variables d i)) = specified_not b d
  worded_not {xs = xs} b (completes c a) = both_ways (begins_spec N at_file_scope xs) b
      (aggregate_begins at_file_scope a)
