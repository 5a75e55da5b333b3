-- Laws of the limits: what a valid problem's terms come to.
use Rattle.std.proofs.Common.{◌≡◌, ℕ, ◌+◌, ◌*◌, ◌^◌, ◌<◌, ◌≤◌, length, refl, sym, subst, arith}
use Rattle.std.specs.Prelude.{slice_index}
use Rattle.std.proofs.lemmas.List.Elements.{All-get_or}
use Rattle.std.proofs.lemmas.Nat.{mul-add-lt}
use Rattle.std.proofs.Math.Nat.{mul-le-mul_left}
use Rattle.mz_num.specs.Round.{round}
use Rattle.mz_num.proofs.RoundLaws.{round-mono}
use Rattle.mz_model.specs.declared.parts.Parts.{Parts}
use Rattle.mz_model.specs.Boundary.{edge_term_of, greatest_rate, IsLength}
use Rattle.mz_model.specs.Parts.{unit_count, zone_count, target_count, cost_at, rate_at, outer_at}
use Rattle.mz_num.specs.Places.{sum_below, greatest_below}
use Rattle.mz_model.specs.Targets.{gain_of}
use Rattle.mz_model.specs.Valid.{IsValid}
use Rattle.mz_num.proofs.PlaceLaws.{at-le-sum_below, at-le-greatest_below}

-- where a zone's entry for another zone stands
pub square_place : (zones k l : ℕ) → k < zones → l < zones → k * zones + l < zones * zones
square_place zones k l h i = mul-add-lt k zones l zones h i

pub cost_at-le : (parts : Parts) (unit zone : ℕ) → IsValid parts → unit < unit_count parts → zone < zone_count parts → cost_at parts unit zone ≤ 10 ^ 18
cost_at-le parts unit zone valid h i =
    let top : cost_at parts unit zone ≤ greatest_below (zone_count parts) (cost_at parts unit) = at-le-greatest_below (zone_count parts) zone (cost_at parts unit) i in
    let all : greatest_below (zone_count parts) (cost_at parts unit) ≤ sum_below (unit_count parts) (λ u. greatest_below (zone_count parts) (cost_at parts u)) = at-le-sum_below (unit_count parts) unit (λ u. greatest_below (zone_count parts) (cost_at parts u)) h in
    omega (arith, valid.limits.cost)

pub rate_at-le-greatest_rate : (parts : Parts) (k l : ℕ) → IsValid parts → k < zone_count parts → l < zone_count parts → rate_at parts k l ≤ greatest_rate parts
unfolding greatest_rate
rate_at-le-greatest_rate parts k l valid h i =
    let inside : k * zone_count parts + l < length parts.rates = subst (λ n. k * zone_count parts + l < n) (sym valid.shape.rates) (square_place (zone_count parts) k l h i) in
    at-le-greatest_below (length parts.rates) (k * zone_count parts + l) (slice_index parts.rates) inside

pub edge_term_of-le : (parts : Parts) (len k l : ℕ) → IsValid parts → IsLength parts len → k < zone_count parts → l < zone_count parts → edge_term_of parts len k l ≤ 10 ^ 18
unfolding edge_term_of
edge_term_of-le parts len k l valid is h i =
    let rate : rate_at parts k l ≤ greatest_rate parts = rate_at-le-greatest_rate parts k l valid h i in
    let product : len * rate_at parts k l ≤ len * greatest_rate parts = mul-le-mul_left len rate in
    let below : round (len * rate_at parts k l) 1000000 ≤ round (len * greatest_rate parts) 1000000 = round-mono (len * rate_at parts k l) (len * greatest_rate parts) 1000000 (omega arith) product in
    omega (arith, is.term)

pub edge_term_of-is : (parts : Parts) (len k l : ℕ) → edge_term_of parts len k l ≡ round (len * rate_at parts k l) 1000000
unfolding edge_term_of
edge_term_of-is parts len k l = refl

pub edge_round-le : (parts : Parts) (len k l : ℕ) → IsValid parts → IsLength parts len → k < zone_count parts → l < zone_count parts → round (len * rate_at parts k l) 1000000 ≤ 10 ^ 18
unfolding edge_term_of
edge_round-le parts len k l valid is h i = edge_term_of-le parts len k l valid is h i

pub outer_at-length : (parts : Parts) (unit : ℕ) → IsValid parts → unit < unit_count parts → IsLength parts (outer_at parts unit)
outer_at-length parts unit valid h = All-get_or (IsLength parts) parts.outer unit 0 (subst (λ n. unit < n) (sym valid.shape.outer) h) valid.limits.outer

pub gain_of-le : (parts : Parts) (row unit zone : ℕ) → IsValid parts → row < target_count parts → unit < unit_count parts → zone < zone_count parts → gain_of parts row unit zone ≤ 10 ^ 18
gain_of-le parts row unit zone valid g h i =
    let top : gain_of parts row unit zone ≤ greatest_below (zone_count parts) (gain_of parts row unit) = at-le-greatest_below (zone_count parts) zone (gain_of parts row unit) i in
    let all : greatest_below (zone_count parts) (gain_of parts row unit) ≤ sum_below (unit_count parts) (λ u. greatest_below (zone_count parts) (gain_of parts row u)) = at-le-sum_below (unit_count parts) unit (λ u. greatest_below (zone_count parts) (gain_of parts row u)) h in
    omega (arith, valid.limits.gain row g)
