-- Values by place, where a row gives the value of one place, which is its key.
use Rattle.std.specs.Prelude.{ℕ, ◌==◌, List, Option, option_map, unwrap_or}
use Rattle.std.specs.List.{find}
use Rattle.mz_num.specs.Places.{list_below}

-- the value of the row that has the key, if there is one
abbrev pub value_at : {Item : Type 0} → (Item → ℕ) → (Item → ℕ) → List Item → ℕ → Option ℕ
value_at key value items place = option_map value (find (λ item. key item == place) items)

-- the value of each place below n, and where no row gives one, what stands there by default
abbrev pub values_below : {Item : Type 0} → ℕ → (Item → ℕ) → (Item → ℕ) → (ℕ → ℕ) → List Item → List ℕ
values_below n key value default items =
    list_below n (λ place. unwrap_or (value_at key value items place) (default place))
