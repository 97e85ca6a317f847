pub mod ErrandTask
