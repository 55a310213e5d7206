pub mod HearLaws
