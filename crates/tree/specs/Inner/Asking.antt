-- How the code hands over what a computation is asked.
use Rattle.inherit.specs.declared.Settings.{Settings}
use Rattle.inherit.specs.Asked.{Asked}

-- its settings, as the computation takes them
abbrev pub settings_asked : Asked → Settings
settings_asked a =
    record {
      container = a.container;
      auto = a.auto-inherit;
      defaulted = a.default-descriptor;
      protect = a.protected;
    }
