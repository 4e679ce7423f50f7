-- What is known of a path that was tested.
use Rattle.std.specs.Prelude.{◌≡◌, true, ℕ, slice_index}
use Rattle.name_object.specs.Component.{Component, seg}
use Rattle.name_object.specs.Memory.{path_ok, path_of_name}
use Rattle.name_object.specs.declared.AmlName.{AmlName}
use Rattle.name_object.specs.declared.NameSeg.{NameSeg}
use Rattle.path.specs.Normal.{absolute, is_normal_path}

-- memory that holds a normal absolute path
pub record Settled (limit : ℕ) (name : AmlName) : Type 0 where
  pub path : path_ok limit name ≡ true
  pub rooted : absolute (path_of_name name) ≡ true
  pub plain : is_normal_path (path_of_name name) ≡ true

-- a segment as a component
abbrev pub segment_of : NameSeg → Component
segment_of s = seg (slice_index s.0 0) (slice_index s.0 1) (slice_index s.0 2) (slice_index s.0 3)
