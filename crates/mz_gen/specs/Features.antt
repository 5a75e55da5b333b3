-- The files of features and of contributions.
use Rattle.std.specs.Prelude.{ℕ, ◌+◌, List, ◌++◌, codes, decimal}
use Rattle.std.specs.List.{concat}
use Rattle.mz_num.specs.Places.{list_below}

-- three tenths of each feature are asked for
abbrev pub feature_line : ℕ → List ℕ
feature_line feature = decimal (feature + 1) ++ codes ",0.3,1,f" ++ decimal (feature + 1) ++ codes "\n"

unfoldable pub features_text : ℕ → List ℕ
features_text features = codes "id,prop,spf,name\n" ++ concat (list_below features feature_line)

-- a half of each amount counts in the second zone, the whole in the third
abbrev pub contrib_lines : ℕ → List ℕ
contrib_lines feature =
    codes "2," ++ decimal (feature + 1) ++ codes ",0.5\n3," ++ decimal (feature + 1) ++ codes ",1\n"

unfoldable pub contribs_text : ℕ → List ℕ
contribs_text features = codes "zoneid,featureid,fraction\n" ++ concat (list_below features contrib_lines)
