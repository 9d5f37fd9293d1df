-- So many bytes make a number below that power of ten, and all bytes tell the field.
use Rattle.std.proofs.Common.{◌≡◌, ℕ, ◌+◌, ◌^◌, ◌≤◌, List, [], ◌∷◌, length, length-append, refl, ap, sym, ◌∙◌, rules, arith, Iter, Bor}
use Rattle.std.specs.Iterator.{Yields}
use Rattle.std.proofs.lemmas.Fn.{serves_by, fold_over, slice_gives, fronts}
use Rattle.simulator.specs.Field.{after_byte, told_number, Below}
use Rattle.simulator.specs.declared.field.Told.{Told}
use Rattle.simulator.specs.declared.field.Told.TheVariants.{Spaces}
use Rattle.simulator.proofs.Powers.{below_more, below_all}
use Rattle.simulator.proofs.Spelled.{after_bytes, after_push, told_is}
use Rattle.simulator.proofs.field.number_in.Goals as goal

-- the bytes that came and those that are left
shared : (s t : Iter ℕ) (xs : List (Bor ℕ)) → Yields fronts s xs t → length xs + length t.rest.now ≡ length s.rest.now
shared s t [] y = rw y (omega arith)
shared s t (x ∷ xs) y = let rest = shared y.0 t xs y.2 in omega (arith, ap length y.1)

kept : (n m b : ℕ) (t u : Told) → m ≡ n + 1 → u ≡ after_byte t b → Below (10 ^ n) t → Below (10 ^ m) u
kept n m b t u one is h = rw (one, is) (below_more n b t h)

pub fold-requires-clause-callable : goal.fold-requires-clause-callable
fold-requires-clause-callable c =
    serves_by _ (λ xs q. Below (10 ^ length xs) q.1)
    (λ xs q x v j k. kept (length xs) _ x.now q.1 v.1 (length-append xs (x ∷ [])) (search rules) j)
    _ _ _ _
    tt
    (λ xs t q x u y e j.
    let all = shared c.iter.result t xs y in
    let few : length xs ≤ 18 = omega (arith, ap length c.iter.ensures.rest) in
    let low : Below (10 ^ 18) q.1 = below_all (length xs) 18 q.1 few j in
    search rules)

pub returns : goal.returns
unfolding after_bytes
returns c =
    let all : c.fold.result ≡ after_bytes Spaces c.iter.result.rest.now =
    fold_over fronts (λ y. y.now) _ (λ ys told. told ≡ after_bytes Spaces ys) _
    (λ ys a x b f j k.
    let is : b ≡ after_byte a x.now = search rules in
    (is ∙ ap (λ (t : Told). after_byte t x.now) j ∙ sym (after_push Spaces ys x.now), search rules))
    _ _ Spaces c.fold.result (slice_gives c.iter.result) refl c.fold.ensures.ran in
    c.number.ensures ∙ ap told_number (all ∙ ap (after_bytes Spaces) c.iter.ensures.rest) ∙ sym (told_is Spaces c.args.bytes.now)
