-- Laws of the parts of amounts that count, side by side, and of rows whose penalties fit 64 bits.
use Rattle.std.proofs.Common.{◌≡◌, ℕ, ◌+◌, ◌*◌, ◌/◌, ◌%◌, ◌<◌, ◌≤◌, ◌^◌, ◌++◌, ◌∷◌, [], List, length, get_or, ap, sym, ◌∙◌, arith}
use Rattle.std.proofs.lemmas.Nat.{div-mul-add, mod-mul-add, mul-add-lt}
use Rattle.std.proofs.Math.Nat.{mul-le-mul_left}
use Rattle.mz_model.specs.declared.parts.Parts.{Parts}
use Rattle.mz_model.specs.Built.{share_at, shares_of}
use Rattle.mz_model.specs.Parts.{feature_count, zone_count, fraction_at}
use Rattle.mz_num.specs.Places.{list_below}
use Rattle.mz_num.proofs.PlaceLaws.{get_or-list_below, length-list_below, list_below-more}

pub shares-more : (parts : Parts) (place share : ℕ) (shares shares' : List ℕ) → shares ≡ list_below place (share_at parts) → share ≡ share_at parts place → shares' ≡ shares ++ share ∷ [] → shares' ≡ list_below (place + 1) (share_at parts)
shares-more parts place share shares shares' so_far is pushed = pushed ∙ ap (λ xs. xs ++ share ∷ []) so_far ∙ ap (λ n. list_below place (share_at parts) ++ n ∷ []) is ∙ sym (list_below-more place (share_at parts))

pub shares-all : (parts : Parts) (place : ℕ) (shares : List ℕ) → place ≡ zone_count parts * feature_count parts → shares ≡ list_below place (share_at parts) → shares ≡ shares_of parts
unfolding shares_of
shares-all parts place shares all so_far = so_far ∙ ap (λ n. list_below n (share_at parts)) all

-- the share that is read of the fractions
pub share-read : (parts : Parts) (fractions : List ℕ) (zones features place : ℕ) → zones ≡ zone_count parts → features ≡ feature_count parts → fractions ≡ parts.fractions → get_or fractions ((place % zones) * features + place / zones) 0 ≡ share_at parts place
share-read parts fractions zones features place e f g =
    ap (λ z. get_or fractions ((place % z) * features + place / z) 0) e
    ∙ ap (λ n. get_or fractions ((place % zone_count parts) * n + place / zone_count parts) 0) f
    ∙ ap (λ (xs : List ℕ). get_or xs ((place % zone_count parts) * feature_count parts + place / zone_count parts) 0) g

-- where the share of a zone and a feature stands
pub record IsShare (parts : Parts) (shares : List ℕ) (zones zone feature : ℕ) : Type 0 where
  pub inside : feature * zones + zone < length shares
  pub is : (d : ℕ) → get_or shares (feature * zones + zone) d ≡ fraction_at parts zone feature

pub share-is : (parts : Parts) (shares : List ℕ) (zones zone feature : ℕ) → shares ≡ shares_of parts → zones ≡ zone_count parts → zone < zone_count parts → feature < feature_count parts → IsShare parts shares zones zone feature
unfolding shares_of
share-is parts shares zones zone feature e same h i =
    let count : ℕ = zone_count parts in
    let place : ℕ = feature * count + zone in
    let at : feature * zones + zone ≡ place = ap (λ n. feature * n + zone) same in
    let inside : place < count * feature_count parts = mul-add-lt feature count zone (feature_count parts) i h in
    record {
      inside = omega (arith, ap length e, length-list_below (count * feature_count parts) (share_at parts));
      is = λ d. ap (λ n. get_or shares n d) at ∙ ap (λ (xs : List ℕ). get_or xs place d) e ∙ get_or-list_below (count * feature_count parts) place (share_at parts) d inside
          ∙ ap (λ z. fraction_at parts z (place / count)) (mod-mul-add feature count zone h)
          ∙ ap (λ f. fraction_at parts zone f) (div-mul-add feature count zone h);
    }

-- a product of a narrow row fits
pub narrow-fits : (weight missing level : ℕ) → missing ≤ level → 2 * (weight * level) + level < 2 ^ 64 → 2 * (weight * missing) + level < 2 ^ 64
narrow-fits weight missing level part narrow = omega (arith, mul-le-mul_left weight part)
